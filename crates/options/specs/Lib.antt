-- What the arguments of the programs mean, and the programs' names.
pub mod Options
pub mod Program
