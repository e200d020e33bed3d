-- What is proved of every run, whatever stamps and solves its passes.
pub mod Budget
