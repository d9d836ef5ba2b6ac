-- `state_of` meets its contract: its tests are those of the rule, on the tallies. Assumes nothing.
use Rattle.std.proofs.Common.{◌≡◌, ap, arith}
use borrow.Author.Tests.{lt-ltb, le-ltb, lt-leb, le-leb, ne_eqb}
use Rattle.decision.specs.declared.state.Tallies.{Tallies}
use Rattle.decision.specs.State.{state_of}
use Rattle.decision.proofs.state.state_of.Goals as goal

pub returns-in-0 : goal.returns-in-0
unfolding state_of
returns-in-0 c =
    rw (
      ← ap (λ (t : Tallies). t.«open») c.tallies_of-counted.ensures,
      c.in-0.is,
      lt-leb _ _ c.if-among.true,
    )

pub returns-in-0-2 : goal.returns-in-0-2
unfolding state_of
returns-in-0-2 c =
    rw (
      ← ap (λ (t : Tallies). t.«open») c.tallies_of-counted.ensures,
      c.in-0.is,
      le-leb _ _ c.if-among.false,
    )

pub returns-in_default : goal.returns-in_default
unfolding state_of
returns-in_default c =
    let some : c.tallies_of-counted.result.«open» ≡ 0 → ⊥ = λ e. omega arith in
    rw (
      ← ap (λ (t : Tallies). t.«open») c.tallies_of-counted.ensures,
      ne_eqb _ _ some,
      ← ap (λ (t : Tallies). t.uncached) c.tallies_of-counted.ensures,
      lt-ltb _ _ c.if-counted-gt0.true,
    )

pub returns-in-1 : goal.returns-in-1
unfolding state_of
returns-in-1 c =
    rw (
      ← ap (λ (t : Tallies). t.«open») c.tallies_of-counted.ensures,
      c.in-1.is,
      ← ap (λ (t : Tallies). t.uncached) c.tallies_of-counted.ensures,
      le-ltb _ _ c.if-counted-gt0.false,
      ← ap (λ (t : Tallies). t.writing) c.tallies_of-counted.ensures,
      lt-ltb _ _ c.if-counted-gt0-2.true,
    )

pub returns-in-1-2 : goal.returns-in-1-2
unfolding state_of
returns-in-1-2 c =
    rw (
      ← ap (λ (t : Tallies). t.«open») c.tallies_of-counted.ensures,
      c.in-1.is,
      ← ap (λ (t : Tallies). t.uncached) c.tallies_of-counted.ensures,
      le-ltb _ _ c.if-counted-gt0.false,
      ← ap (λ (t : Tallies). t.writing) c.tallies_of-counted.ensures,
      le-ltb _ _ c.if-counted-gt0-2.false,
      ← c.record_of.ensures,
      ← c.is_open.ensures,
      c.if-among-is_open.true,
    )

pub returns-in-1-3 : goal.returns-in-1-3
unfolding state_of
returns-in-1-3 c =
    rw (
      ← ap (λ (t : Tallies). t.«open») c.tallies_of-counted.ensures,
      c.in-1.is,
      ← ap (λ (t : Tallies). t.uncached) c.tallies_of-counted.ensures,
      le-ltb _ _ c.if-counted-gt0.false,
      ← ap (λ (t : Tallies). t.writing) c.tallies_of-counted.ensures,
      le-ltb _ _ c.if-counted-gt0-2.false,
      ← c.record_of.ensures,
      ← c.is_open.ensures,
      c.if-among-is_open.false,
    )

pub returns-in_default-2 : goal.returns-in_default-2
unfolding state_of
returns-in_default-2 c =
    let some : c.tallies_of-counted.result.«open» ≡ 0 → ⊥ = λ e. omega arith in
    let more : c.tallies_of-counted.result.«open» ≡ 1 → ⊥ = λ e. omega arith in
    rw (
      ← ap (λ (t : Tallies). t.«open») c.tallies_of-counted.ensures,
      ne_eqb _ _ some,
      ne_eqb _ _ more,
      ← ap (λ (t : Tallies). t.uncached) c.tallies_of-counted.ensures,
      le-ltb _ _ c.if-counted-gt0.false,
    )
