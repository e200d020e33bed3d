-- How a field of a record is written. Clients cite whole_quoted and plain_byte.
use Rattle.std.specs.Prelude.{ℕ, ◌^◌, Bool, not, ◌&&◌, ◌==◌, nat_le, nat_lt}
use Prim.Native.Char.{code}

-- "In JSON one above 2^53 is a string"
abbrev pub whole_quoted : Bool → ℕ → Bool
whole_quoted json n = json && nat_lt (2 ^ 53) n

-- a byte of a file's name that stands for itself: "from ! to ~ but for the quote, the percent sign and the backslash"
abbrev pub plain_byte : ℕ → Bool
plain_byte c = nat_le (code "!") c && nat_le c (code "~") && not (c == (code "\"")) && not (c == (code "%")) && not (c == (code "\\"))
