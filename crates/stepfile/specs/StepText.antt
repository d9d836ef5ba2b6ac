-- How a step is written: its word, and each of its numbers after a space.
use Rattle.std.specs.Prelude.{ℕ, ◌<◌, ◌^◌, List, [], ◌∷◌, ◌++◌}
use Rattle.records.specs.declared.record.Mode.TheVariants.{Read as ForRead, Write as ForWrite}
use Rattle.protocol.specs.declared.step.Step.{Step}
use Rattle.protocol.specs.declared.step.Step.TheVariants.{Open, Close, Read, Write, Flush, Answer, Crash, Report, End}
use Rattle.protocol.specs.declared.step.Step.TheVariants.{Restart, Embargo, Lift}
use Rattle.stepfile.specs.Text.{bytes, values_text}

abbrev pub word_of : Step → List ℕ
word_of (Open ForRead i f) = bytes "OR"
word_of (Open ForWrite i f) = bytes "OW"
word_of (Close ForRead i f) = bytes "CR"
word_of (Close ForWrite i f) = bytes "CW"
word_of (Answer i f) = bytes "AN"
word_of (Read i f b) = bytes "RD"
word_of (Flush i f b) = bytes "FL"
word_of (Write i f b v) = bytes "WR"
word_of Crash = bytes "XX"
word_of (Report i) = bytes "RP"
word_of End = bytes "EN"
word_of (Restart i) = bytes "BT"
word_of (Embargo i f) = bytes "EM"
word_of (Lift i) = bytes "LF"

abbrev pub numbers_of : Step → List ℕ
numbers_of (Open m i f) = i ∷ f ∷ []
numbers_of (Close m i f) = i ∷ f ∷ []
numbers_of (Answer i f) = i ∷ f ∷ []
numbers_of (Read i f b) = i ∷ f ∷ b ∷ []
numbers_of (Flush i f b) = i ∷ f ∷ b ∷ []
numbers_of (Write i f b v) = i ∷ f ∷ b ∷ v ∷ []
numbers_of Crash = []
numbers_of (Report i) = i ∷ []
numbers_of End = []
numbers_of (Restart i) = i ∷ []
numbers_of (Embargo i f) = i ∷ f ∷ []
numbers_of (Lift i) = i ∷ []

abbrev pub step_text : Step → List ℕ
step_text s = word_of s ++ values_text (numbers_of s)

-- the numbers are below 2 to the 64th
abbrev pub EachFits : List ℕ → Type 0
EachFits [] = Unit {0}
EachFits (n ∷ ns) = (n < 2 ^ 64) × EachFits ns
