-- The copy check by one subtraction (document 02, Wish 3) is document 01's, for all labels and latest versions, 0 and
-- 4,294,967,295 among them. Assumes nothing.
use Prim.Native.Nat.{ℕ, ◌-◌}
use mathlib.Core.Path.{◌≡◌}
use mathlib.Core.Bool.{true, false, ◌||◌}
use native.Mathlib.Omega.{arith}
use lib.Dec.{eqb, leb}
use borrow.Author.Tests.{leb-true, leb-false, eqb-true, eqb-false, le-leb, lt-leb, ne_eqb}
use Rattle.records.specs.declared.record.Mode.{Mode}
use Rattle.records.specs.declared.record.Mode.TheVariants.{Read, Write}
use Rattle.records.specs.declared.version.Version.{Version}
use Rattle.records.specs.Version.{number_of, lags_at_most}
use Rattle.records.specs.Record.{allowed_lag}
use Rattle.sizes.proofs.Choosing.{split}
use Rattle.protocol.specs.Copy.{keeps_copy}

module _ (label latest : ℕ) where
  -- A label above the latest is neither the latest version nor the previous one.
  not_latest : leb label latest ≡ false → eqb label latest ≡ false
  not_latest e = ne_eqb label latest (omega (arith, leb-false))

  not_previous : leb label latest ≡ false → eqb label (latest - 1) ≡ false
  not_previous e = ne_eqb label (latest - 1) (omega (arith, leb-false))

  -- Of the others, the difference tells the latest version, and the latest or the previous one.
  at_most_0 : leb label latest ≡ true → leb (latest - label) 0 ≡ (eqb label latest || false)
  at_most_0 e =
      split (eqb label latest)
      (λ same. cc (le-leb (latest - label) 0 (omega (arith, eqb-true))))
      (λ other. cc (lt-leb (latest - label) 0 (omega (arith, leb-true, eqb-false))))

  at_most_1 : leb label latest ≡ true → leb (latest - label) 1 ≡ (eqb label latest || eqb label (latest - 1))
  at_most_1 e =
      split (eqb label latest)
      (λ same. cc (le-leb (latest - label) 1 (omega (arith, eqb-true))))
      (λ other. split (eqb label (latest - 1))
      (λ previous. cc (le-leb (latest - label) 1 (omega (arith, eqb-true))))
      (λ older. cc (lt-leb (latest - label) 1 (omega (arith, leb-true, eqb-false)))))

pub one_subtraction :
    (mode : Mode) (label latest : Version)
    → lags_at_most (allowed_lag mode) label latest ≡ keeps_copy mode label latest
one_subtraction Read label latest =
    let l = number_of label in
    let v = number_of latest in
    split (leb l v) (λ e. cc (at_most_0 l v e)) (λ e. cc (not_latest l v e))
one_subtraction Write label latest =
    let l = number_of label in
    let v = number_of latest in
    split (leb l v) (λ e. cc (at_most_1 l v e)) (λ e. cc (not_latest l v e, not_previous l v e))
