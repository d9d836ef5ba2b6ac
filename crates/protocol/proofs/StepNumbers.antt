-- A step's numbers give the step back. Assumes nothing.
use Prim.Native.Nat.{◌<◌}
use mathlib.Core.Path.{◌≡◌, refl}
use native.Mathlib.Omega.{arith}
use Rattle.records.specs.declared.record.Mode.TheVariants.{Read as ForRead, Write as ForWrite}
use Rattle.protocol.specs.declared.step.Numbers.{Numbers}
use Rattle.protocol.specs.declared.step.Step.{Step}
use Rattle.protocol.specs.declared.step.Step.TheVariants.{Open, Close, Read, Write, Flush, Answer, Crash}
use Rattle.protocol.specs.declared.step.Step.TheVariants.{Report, End, Restart, Embargo, Lift}
use Rattle.protocol.specs.Step.{numbers_of, kinds, step_asked}

abbrev pub asked_by : Numbers → Step
asked_by r = step_asked r.kind r.client r.file r.block r.value

pub asked_back : (x : Step) → asked_by (numbers_of x) ≡ x
asked_back (Open ForRead i f) = refl
asked_back (Open ForWrite i f) = refl
asked_back (Close ForRead i f) = refl
asked_back (Close ForWrite i f) = refl
asked_back (Read i f b) = refl
asked_back (Write i f b v) = refl
asked_back (Flush i f b) = refl
asked_back (Answer i f) = refl
asked_back Crash = refl
asked_back (Report i) = refl
asked_back End = refl
asked_back (Restart i) = refl
asked_back (Embargo i f) = refl
asked_back (Lift i) = refl

pub kind_low : (x : Step) → (numbers_of x).kind < kinds
kind_low (Open ForRead i f) = omega arith
kind_low (Open ForWrite i f) = omega arith
kind_low (Close ForRead i f) = omega arith
kind_low (Close ForWrite i f) = omega arith
kind_low (Read i f b) = omega arith
kind_low (Write i f b v) = omega arith
kind_low (Flush i f b) = omega arith
kind_low (Answer i f) = omega arith
kind_low Crash = omega arith
kind_low (Report i) = omega arith
kind_low End = omega arith
kind_low (Restart i) = omega arith
kind_low (Embargo i f) = omega arith
kind_low (Lift i) = omega arith
