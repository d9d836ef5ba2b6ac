-- The programs that have this command line, each by its number.
use Rattle.std.specs.Prelude.{ℕ, cond, List, eqb}
use Rattle.stepfile.specs.Text.{bytes}
use Rattle.options.specs.declared.program.Program.{Program}
use Rattle.options.specs.declared.program.Program.TheVariants.{Play, Explain, Traffic}

abbrev pub number_of : Program → ℕ
number_of Play = 0
number_of Explain = 1
number_of Traffic = 2

-- the name of a program, by its number
abbrev pub program_name : ℕ → List ℕ
program_name program = cond (eqb program 0) (bytes "play") (cond (eqb program 1) (bytes "explain") (bytes "traffic"))
