-- The outcome of a step, but for the store, as the code puts it together: one equation for each class of step.
-- Numbers are wrapped into the arrays; a step that names what is not there is refused, whatever stands there. Assumes
-- nothing.
pub mod Result
use Prim.Native.Nat.{ℕ, ◌%◌, ◌≤◌}
use mathlib.Core.Path.{◌≡◌, refl, sym, ap, ap₂, ◌∙◌}
use mathlib.Core.Bool.{Bool, true, false, cond, ◌||◌, true≢false, or-true}
use native.Mathlib.Nat.{mod-eq_of_lt}
use native.Mathlib.Omega.{arith}
use lib.Dec.{eqb, leb}
use borrow.Author.Tests.{leb-true, leb-false, le-leb}
use Rattle.sizes.specs.declared.sizes.Sizes.{Sizes}
use Rattle.sizes.specs.Sizes.{max_clients, max_files, Permitted}
use Rattle.sizes.proofs.InForce.{in_force_permitted}
use Rattle.protocol.specs.declared.client.ClientFile.{ClientFile}
use Rattle.protocol.specs.declared.reply.Reply.TheVariants.{Refused}
use Rattle.protocol.specs.Step.{Class}
use Rattle.protocol.specs.Step.{OnFile, OnBlock, OnTable, OnAll}
use Rattle.protocol.specs.declared.step.Step.{Step}
use Rattle.protocol.specs.declared.step.Step.TheVariants.{Open, Close, Read, Write, Flush, Answer, Crash, Report, End}
use Rattle.protocol.specs.declared.step.Step.TheVariants.{Restart, Embargo, Lift}
use Rattle.protocol.specs.Step.{class_of, client_of}
use Rattle.blocks.specs.declared.stores.Stores.{Stores}
use Rattle.access.specs.BlockStep.{block_step}
use Rattle.protocol.specs.declared.shared.SharedFile.{SharedFile}
use Rattle.file.specs.FileStep.{leaving, file_step}
use Rattle.table.specs.TableStep.{table_step}
use Rattle.service.specs.declared.service.Service.{Service}
use Rattle.service.specs.declared.outcome.Outcome.{Outcome}
use Rattle.service.specs.Contents.{sizes_of, table_in, reported_at, embargoed_at, client_at, file_at, stores_of}
use Rattle.service.specs.Step.{file_outcome, block_outcome, table_outcome, outcome_in, moved}
use Rattle.service.proofs.Tests.{split}
use Rattle.service.proofs.OneFile.{same_file}
use Rattle.service.proofs.Accepted.{refused_with}

-- the class of a step tells what it touches
step_in :
    (takes full : Bool) (s : Service) (x : Step) (c : Class)
    → class_of x ≡ c
    → moved takes full s x ≡ outcome_in takes full s x c
unfolding moved
step_in takes full s x c e = ap (outcome_in takes full s x) e

-- ---- on a file

abbrev is_on_file : Class → Bool
is_on_file (OnFile f) = true
is_on_file (OnBlock i f) = false
is_on_file OnTable = false
is_on_file OnAll = false

abbrev file_of : Class → ℕ
file_of (OnFile f) = f
file_of (OnBlock i f) = f
file_of OnTable = 0
file_of OnAll = 0

-- a step that names no client or no file is refused with 2 or 3, whatever it does otherwise
refused_first {ℓ} :
    {A : Type ℓ} (client file : Bool) (rest : ℕ) (refused : ℕ → A) (done : A)
    → (client || file) ≡ true
    → cond (eqb (cond client 2 (cond file 3 rest)) 0) done (refused (cond client 2 (cond file 3 rest)))
    ≡ refused (cond client 2 3)
refused_first true file rest refused done e = refl
refused_first false true rest refused done e = refl
refused_first false false rest refused done e = absurd (true≢false (sym e))

absent :
    (z : Sizes) (i f g : ℕ)
    → OnFile f ≡ OnFile g
    → (leb z.clients i || leb z.files g) ≡ true
    → (leb z.clients i || leb z.files f) ≡ true
absent z i f g c h = rw (ap file_of c) h

-- whatever file and whatever flag stand for those that are not there
pub no_file_lem :
    (z : Sizes) (recovering : Bool) (a : Stores) (x : Step) (g : ℕ)
    → class_of x ≡ OnFile g
    → (leb z.clients (client_of x) || leb z.files g) ≡ true
    → (k : ℕ)
    × ((embargoed : Bool) (y : SharedFile) → file_step z embargoed recovering y a x ≡ leaving y a (Refused k))
unfolding file_step
no_file_lem z recovering a (Open m i f) g c h = (
  cond (leb z.clients i) 2 3,
  λ embargoed y.
      refused_first (leb z.clients i) (leb z.files f) _ (λ k. leaving y a (Refused k)) _ (absent z i f g c h),
)
no_file_lem z recovering a (Close m i f) g c h = (
  cond (leb z.clients i) 2 3,
  λ embargoed y.
      refused_first (leb z.clients i) (leb z.files f) _ (λ k. leaving y a (Refused k)) _ (absent z i f g c h),
)
no_file_lem z recovering a (Flush i f b) g c h = (
  cond (leb z.clients i) 2 3,
  λ embargoed y.
      refused_first (leb z.clients i) (leb z.files f) _ (λ k. leaving y a (Refused k)) _ (absent z i f g c h),
)
no_file_lem z recovering a (Answer i f) g c h = (
  cond (leb z.clients i) 2 3,
  λ embargoed y.
      refused_first (leb z.clients i) (leb z.files f) _ (λ k. leaving y a (Refused k)) _ (absent z i f g c h),
)
no_file_lem z recovering a (Read i f b) g c h = absurd (true≢false (sym (ap is_on_file c)))
no_file_lem z recovering a (Write i f b v) g c h = absurd (true≢false (sym (ap is_on_file c)))
no_file_lem z recovering a Crash g c h = absurd (true≢false (sym (ap is_on_file c)))
no_file_lem z recovering a (Report i) g c h = absurd (true≢false (sym (ap is_on_file c)))
no_file_lem z recovering a End g c h = absurd (true≢false (sym (ap is_on_file c)))
no_file_lem z recovering a (Restart i) g c h = absurd (true≢false (sym (ap is_on_file c)))
no_file_lem z recovering a (Embargo i f) g c h = absurd (true≢false (sym (ap is_on_file c)))
no_file_lem z recovering a (Lift i) g c h = absurd (true≢false (sym (ap is_on_file c)))

-- whatever side stands for one that is not there
abbrev is_on_block : Class → Bool
is_on_block (OnFile f) = false
is_on_block (OnBlock i f) = true
is_on_block OnTable = false
is_on_block OnAll = false

abbrev client_in : Class → ℕ
client_in (OnFile f) = 0
client_in (OnBlock i f) = i
client_in OnTable = 0
client_in OnAll = 0

no_block :
    (z : Sizes) (recovering : Bool) (a : Stores) (x : Step) (j g : ℕ)
    → class_of x ≡ OnBlock j g
    → (leb z.clients j || leb z.files g) ≡ true
    → (k : ℕ)
    × ((embargoed reported : Bool) (own : ClientFile) (takes full : Bool)
    → block_step z embargoed recovering reported own takes full a x ≡ record { stores = a; reply = Refused k })
unfolding block_step
no_block z recovering a (Read i f b) j g c h = (
  cond (leb z.clients i) 2 3,
  λ embargoed reported own takes full.
      refused_first (leb z.clients i) (leb z.files f) _ (λ k. record { stores = a; reply = Refused k }) _
      (rw (ap client_in c, ap file_of c) h),
)
no_block z recovering a (Write i f b v) j g c h = (
  cond (leb z.clients i) 2 3,
  λ embargoed reported own takes full.
      refused_first (leb z.clients i) (leb z.files f) _ (λ k. record { stores = a; reply = Refused k }) _
      (rw (ap client_in c, ap file_of c) h),
)
no_block z recovering a (Open m i f) j g c h = absurd (true≢false (sym (ap is_on_block c)))
no_block z recovering a (Close m i f) j g c h = absurd (true≢false (sym (ap is_on_block c)))
no_block z recovering a (Flush i f b) j g c h = absurd (true≢false (sym (ap is_on_block c)))
no_block z recovering a (Answer i f) j g c h = absurd (true≢false (sym (ap is_on_block c)))
no_block z recovering a Crash j g c h = absurd (true≢false (sym (ap is_on_block c)))
no_block z recovering a (Report i) j g c h = absurd (true≢false (sym (ap is_on_block c)))
no_block z recovering a End j g c h = absurd (true≢false (sym (ap is_on_block c)))
no_block z recovering a (Restart i) j g c h = absurd (true≢false (sym (ap is_on_block c)))
no_block z recovering a (Embargo i f) j g c h = absurd (true≢false (sym (ap is_on_block c)))
no_block z recovering a (Lift i) j g c h = absurd (true≢false (sym (ap is_on_block c)))

neither : (a b : Bool) → (a || b) ≡ false → (a ≡ false) × (b ≡ false)
neither true b e = absurd (true≢false e)
neither false b e = (refl, e)

-- past the arrays is past the sizes in force
past : (size most n : ℕ) → size ≤ most → leb most n ≡ true → leb size n ≡ true
past size most n fits e = le-leb size n (omega (arith, fits, leb-true most n e))

past_either :
    {z : Sizes}
    → Permitted z
    → (i f : ℕ)
    → (leb max_clients i || leb max_files f) ≡ true
    → (leb z.clients i || leb z.files f) ≡ true
past_either {z} p i f e =
    split (leb max_clients i)
    (λ c. rw (past z.clients max_clients i p.clients c))
    (λ c. rw (past z.files max_files f p.files (rw c at e)) (or-true (leb z.clients i)))

-- ---- the three equations

module _ (takes full : Bool) (s : Service) (x : Step) where
  abbrev z : Sizes
  z = sizes_of s

  abbrev at_file : ℕ → ℕ → Outcome
  at_file i f = file_outcome s f (file_step z (embargoed_at s i) (table_in s).recovering (file_at s f) (stores_of s) x)

  pub file_arm : (f : ℕ) → class_of x ≡ OnFile f → moved takes full s x ≡ at_file (client_of x % max_clients) (f % max_files)
  file_arm f c =
      step_in takes full s x (OnFile f) c
      ∙ split (leb max_clients (client_of x) || leb max_files f)
      (λ e.
      let none = no_file_lem z (table_in s).recovering (stores_of s) x f c
      (past_either (in_force_permitted s.sizes) (client_of x) f e) in
      let as-it-came : (i g : ℕ) → at_file i g ≡ _ =
      λ i g.
      ap (file_outcome s g) (none.1 (embargoed_at s i) (file_at s g))
      ∙ ap (refused_with none.0) (same_file s g (stores_of s)) in
      as-it-came (client_of x) f ∙ sym (as-it-came (client_of x % max_clients) (f % max_files)))
      (λ e.
      let (client, file) = neither (leb max_clients (client_of x)) (leb max_files f) e in
      ap₂ at_file
      (sym (mod-eq_of_lt (leb-false max_clients (client_of x) client)))
      (sym (mod-eq_of_lt (leb-false max_files f file))))

  -- ---- on a block

  abbrev at_block : ℕ → ℕ → Outcome
  at_block i f =
      block_outcome s
      (block_step z (embargoed_at s i) (table_in s).recovering (reported_at s i) (client_at s i f) takes full (stores_of s) x)

  pub block_arm : (i f : ℕ) → class_of x ≡ OnBlock i f → moved takes full s x ≡ at_block (i % max_clients) (f % max_files)
  block_arm i f c =
      step_in takes full s x (OnBlock i f) c
      ∙ split (leb max_clients i || leb max_files f)
      (λ e.
      let none = no_block z (table_in s).recovering (stores_of s) x i f c (past_either (in_force_permitted s.sizes) i f e) in
      ap (block_outcome s) (none.1 _ _ _ takes full ∙ sym (none.1 _ _ _ takes full)))
      (λ e.
      let (client, file) = neither (leb max_clients i) (leb max_files f) e in
      ap₂ at_block (sym (mod-eq_of_lt (leb-false max_clients i client))) (sym (mod-eq_of_lt (leb-false max_files f file))))

  -- ---- on the table

  pub table_arm : class_of x ≡ OnTable → moved takes full s x ≡ table_outcome s (table_step z (table_in s) s.clients x)
  table_arm c = step_in takes full s x OnTable c
