-- `argument_of` meets its contract: the tests of the code are those of the definition. Assumes nothing.
use Prim.Native.Nat.{ℕ}
use mathlib.Core.Path.{◌≡◌}
use mathlib.Core.Bool.{Bool, ◌||◌, not}
use mathlib.Core.List.{List}
use Rattle.options.specs.Options.{dashed, argument_of}
use Rattle.options.proofs.Texts.{differs}
use Rattle.options.proofs.options.argument_of.Goals as goal

-- the outcome of the third test, by the definition
name_test : (dashes is_dashed b : Bool) (text : List ℕ) → is_dashed ≡ dashed text → (dashes || not is_dashed) ≡ b
    → (dashes || not (dashed text)) ≡ b
name_test dashes is_dashed b text is e = rw (← is) e

pub returns-then-is_at : goal.returns-then-is_at
unfolding argument_of
returns-then-is_at c = rw (← c.is_at.ensures, ← c.is_at-2.ensures, c.if-is_at.true) c.image_name_of.ensures

pub returns-then-same : goal.returns-then-same
unfolding argument_of
returns-then-same c = rw (← c.is_at.ensures, ← c.is_at-2.ensures, c.if-is_at.false, c.same.ensures.0 c.if-same.true)

pub returns-then-request-is_dashed : goal.returns-then-request-is_dashed
unfolding argument_of
returns-then-request-is_dashed c =
    rw (
      ← c.is_at.ensures,
      ← c.is_at-2.ensures,
      c.if-is_at.false,
      differs _ _ c.same.ensures.1 c.if-same.false,
      name_test _ _ _ _ c.is_dashed.ensures c.if-request-is_dashed.true,
    )

pub returns : goal.returns
unfolding argument_of
returns c =
    rw (
      ← c.is_at.ensures,
      ← c.is_at-2.ensures,
      c.if-is_at.false,
      differs _ _ c.same.ensures.1 c.if-same.false,
      name_test _ _ _ _ c.is_dashed.ensures c.if-request-is_dashed.false,
    )
    c.option_of.ensures
