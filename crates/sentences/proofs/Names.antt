-- What the numbers of a step name; the same sentence where it names the same; and what is said of an embargo and of a
-- report that clashes. Assumes nothing.
use Prim.Native.Nat.{ℕ}
use mathlib.Core.Path.{◌≡◌, refl, sym, ap}
use mathlib.Core.Bool.{Bool, true, false, cond}
use mathlib.Core.List.{List}
use lib.Dec.{eqb}
use Rattle.records.specs.declared.record.Mode.{Mode}
use Rattle.records.specs.declared.record.Mode.TheVariants.{Read as ForRead, Write as ForWrite}
use Rattle.sizes.specs.declared.sizes.Sizes.{Sizes}
use Rattle.sizes.proofs.Choosing.{when, unless}
use Rattle.protocol.specs.declared.client.ClientFile.{ClientFile}
use Rattle.protocol.specs.declared.entry.Entry.{Entry}
use Rattle.protocol.specs.declared.reply.Grant.{Grant}
use Rattle.protocol.specs.declared.step.Numbers.{Numbers}
use Rattle.protocol.specs.declared.step.Step.{Step}
use Rattle.protocol.specs.declared.step.Step.TheVariants.{Open, Close, Read, Write, Flush, Answer, Crash, Report, End}
use Rattle.protocol.specs.declared.step.Step.TheVariants.{Restart, Embargo, Lift}
use Rattle.protocol.specs.Step.{numbers_of, client_of, file_of, block_of}
use Rattle.ledger.specs.declared.told.Told.{Told}
use Rattle.phrases.specs.Accepted.{read_text, grant_text, wait_text, answer_text, done_text}
use Rattle.sentences.specs.Scene.{Whole}
use Rattle.sentences.specs.Explained.{embargoed_text, is_embargo, refused_text}

-- what the numbers of a step name, the step names
module _ (x : Step) {q : Numbers} (is : q ≡ numbers_of x) where
  pub client_named : q.client ≡ client_of x
  client_named = ap (λ (r : Numbers). r.client) is

  pub file_named : q.file ≡ file_of x
  file_named = ap (λ (r : Numbers). r.file) is

  pub block_named : q.block ≡ block_of x
  block_named = ap (λ (r : Numbers). r.block) is

-- the same sentence where it names the same
pub grant_as :
    {m m' : Mode} {own own' : ClientFile} {i i' f f' : ℕ} (g : Grant)
    → m ≡ m'
    → own ≡ own'
    → i ≡ i'
    → f ≡ f'
    → grant_text m g own i f ≡ grant_text m' g own' i' f'
grant_as g p q r s = λ k. grant_text (p k) g (q k) (r k) (s k)

pub wait_as :
    (n : ℕ) (kinds : List ℕ) {e e' : Entry} {m m' : Mode} {i i' f f' : ℕ}
    → e ≡ e'
    → m ≡ m'
    → i ≡ i'
    → f ≡ f'
    → wait_text n e m i f kinds ≡ wait_text n e' m' i' f' kinds
wait_as n kinds o p q r = λ k. wait_text n (o k) (p k) (q k) (r k) kinds

pub read_as :
    (fresh : Bool) (t : Told) {aside aside' : Bool} {n n' i i' f f' b b' : ℕ}
    → aside ≡ aside'
    → n ≡ n'
    → i ≡ i'
    → f ≡ f'
    → b ≡ b'
    → read_text fresh t aside n i f b ≡ read_text fresh t aside' n' i' f' b'
read_as fresh t o m p q r = λ k. read_text fresh t (o k) (m k) (p k) (q k) (r k)

pub refused_as :
    (z : Sizes) (x : Step) (k : ℕ) (used dirty : List Bool) {reported reported' embargoed embargoed' : List Bool} {e e' : Entry}
    {since since' n n' : ℕ}
    → reported ≡ reported'
    → embargoed ≡ embargoed'
    → e ≡ e'
    → since ≡ since'
    → n ≡ n'
    → refused_text z used dirty reported embargoed e since n x k
    ≡ refused_text z used dirty reported' embargoed' e' since' n' x k
refused_as z x j used dirty o p q r s = λ k. refused_text z used dirty (o k) (p k) (q k) (r k) (s k) x j

pub done_as :
    (caching : Bool) (x : Step) {aside aside' : Bool} {n n' : ℕ}
    → aside ≡ aside'
    → n ≡ n'
    → done_text caching aside n x ≡ done_text caching aside' n' x
done_as caching x p q = λ k. done_text caching (p k) (q k) x

pub answer_as : (n : ℕ) {i i' f f' : ℕ} → i ≡ i' → f ≡ f' → answer_text n i f ≡ answer_text n i' f'
answer_as n p q = λ k. answer_text n (p k) (q k)

-- any other step is no embargo
not_embargo : (x : Step) → ((i f : ℕ) → x ≡ Embargo i f → ⊥) → is_embargo x ≡ false
not_embargo (Open ForRead i f) h = refl
not_embargo (Open ForWrite i f) h = refl
not_embargo (Close ForRead i f) h = refl
not_embargo (Close ForWrite i f) h = refl
not_embargo (Read i f b) h = refl
not_embargo (Write i f b v) h = refl
not_embargo (Flush i f b) h = refl
not_embargo (Answer i f) h = refl
not_embargo Crash h = refl
not_embargo (Report i) h = refl
not_embargo End h = refl
not_embargo (Restart i) h = refl
not_embargo (Embargo i f) h = absurd (h i f refl)
not_embargo (Lift i) h = refl

pub no_embargo :
    (z : Sizes) (w : Whole) (x : Step) (other : List ℕ)
    → ((i f : ℕ) → x ≡ Embargo i f → ⊥)
    → other ≡ cond (is_embargo x) (embargoed_text z w (client_of x)) other
no_embargo z w x other h = sym (unless (embargoed_text z w (client_of x)) other (not_embargo x h))

-- a report that clashes is told by the number of its refusal
module _ (k : ℕ) (clash other : List ℕ) where
  pub a_clash : eqb k 22 ≡ true → clash ≡ cond (eqb k 22) clash other
  a_clash e = sym (when clash other e)

  pub no_clash : eqb k 22 ≡ false → other ≡ cond (eqb k 22) clash other
  no_clash e = sym (unless clash other e)
