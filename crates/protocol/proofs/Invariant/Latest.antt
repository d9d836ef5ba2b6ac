-- The latest version after a grant: the file's own for a read open, the next one for a write open, which no client has
-- yet; and which copies the copy check keeps. It leads to the grant. Assumes nothing.
use Prim.Native.Nat.{ℕ, ◌+◌, ◌-◌, ◌≤◌}
use mathlib.Core.Path.{◌≡◌, refl, sym, ◌∙◌, ap, subst}
use mathlib.Core.Bool.{true, false, cond, ◌&&◌, true≢false, false≢true}
use native.Mathlib.Omega.{arith}
use lib.Dec.{eqb}
use borrow.Author.Tests.{ne_eqb}
use Rattle.records.specs.declared.record.Mode.{Mode}
use Rattle.records.specs.declared.record.Mode.TheVariants.{Read, Write}
use Rattle.records.specs.declared.version.Version.{Version}
use Rattle.records.specs.Version.{version_of, first_version, number_of, same_version, is_last_version, next_version, latest_at}
use Rattle.records.specs.Record.{is_write}
use Rattle.protocol.specs.Copy.{keeps_copy}
use Rattle.protocol.proofs.Invariant.Flags.{conflict, split}

-- What the clauses need of the latest version that a grant tells, where the file has had this version.
pub record Latest (version : Version) (mode : Mode) (later : Version) : Type 0 where
  pub version_not_zero : eqb (number_of later) 0 ≡ false
  pub rises : number_of version ≤ number_of later
  -- A read open stores the version as it is, a write open the latest.
  pub stored : cond (is_write mode) later version ≡ later
  -- A copy there is now is of the latest version only if it was, and not after a write open.
  pub was :
      (label : Version)
      → number_of label ≤ number_of version
      → same_version label later ≡ true
      → same_version label version ≡ true
  pub unwritten :
      (label : Version)
      → number_of label ≤ number_of version
      → same_version label later ≡ true
      → is_write mode ≡ true
      → ⊥
  -- After a read open one that was still is.
  pub is : (label : Version) → is_write mode ≡ false → same_version label version ≡ true → same_version label later ≡ true
  -- The copy check keeps a copy just where it was of the latest version.
  pub kept :
      (label : Version)
      → number_of label ≤ number_of version
      → keeps_copy mode label later ≡ true
      → same_version label version ≡ true
  pub keeps : (label : Version) → same_version label version ≡ true → keeps_copy mode label later ≡ true

module _ (version : Version) (version_not_zero : eqb (number_of version) 0 ≡ false) where
  read_is : latest_at Read version ≡ version
  read_is = ap (λ b. cond b first_version version) version_not_zero

  write_is : is_last_version version ≡ false → latest_at Write version ≡ version_of (number_of version + 1)
  write_is left = ap next_version read_is ∙ ap (λ b. cond b version (version_of (number_of version + 1))) left

  at_read : Latest version Read version
  at_read =
      record {
        version_not_zero = version_not_zero;
        rises = omega arith;
        stored = refl;
        was = λ _ _ e. e;
        unwritten = λ _ _ _ w. false≢true w;
        is = λ _ _ e. e;
        kept = λ label _ e. split (same_version label version) (λ q. q)
            (λ q. let miss : keeps_copy Read label version ≡ false = cc in absurd (conflict e miss));
        keeps = λ label e. cc;
      }

  -- no copy has the number that a write open gives
  new : (label : Version) → number_of label ≤ number_of version → eqb (number_of label) (number_of version + 1) ≡ false
  new label l = ne_eqb (number_of label) (number_of version + 1) (λ q. omega arith)

  -- and the one before it is the file's
  before : (x : ℕ) → eqb x (number_of version + 1 - 1) ≡ eqb x (number_of version)
  before x = ap (eqb x) (omega arith)

  at_write : Latest version Write (version_of (number_of version + 1))
  at_write =
      record {
        version_not_zero = ne_eqb (number_of version + 1) 0 (omega arith);
        rises = omega arith;
        stored = refl;
        was = λ label l e. absurd (conflict e (new label l));
        unwritten = λ label l e _. conflict e (new label l);
        is = λ _ r. absurd (true≢false r);
        kept = λ label l e. split (same_version label version) (λ q. q)
            (λ q.
            let miss : keeps_copy Write label (version_of (number_of version + 1)) ≡ false
            = cc (new label l, before (number_of label)) in
            absurd (conflict e miss));
        keeps = λ label e. split (eqb (number_of label) (number_of version + 1)) (λ hit. cc)
            (λ miss. cc (before (number_of label)));
      }

  pub latest :
      (mode : Mode)
      → (is_write mode && is_last_version version) ≡ false
      → Latest version mode (latest_at mode version)
  latest Read _ = subst (Latest version Read) (sym read_is) at_read
  latest Write left = subst (Latest version Write) (sym (write_is left)) at_write
