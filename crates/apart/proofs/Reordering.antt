-- A list of steps on single files may be reordered, and played apart, since two steps on different files may change places.
-- Assumes nothing.
use Prim.Native.Nat.{ℕ}
use mathlib.Core.Path.{◌≡◌, refl, sym, ap, subst, ◌∙◌}
use mathlib.Core.Bool.{Bool, true, false, cond, true≢false}
use mathlib.Core.List.{List, [], ◌∷◌}
use lib.Dec.{eqb}
use borrow.Author.Tests.{eqb-true, eqb-false, eq-eqb, ne_eqb}
use Rattle.sizes.proofs.Choosing.{split, when, unless}
use Rattle.protocol.specs.declared.step.Step.{Step}
use Rattle.protocol.specs.Step.{file_of}
use Rattle.service.specs.declared.service.Service.{Service}
use Rattle.apart.specs.Apart.{on_one_file, gets, then, LeavesFree}
use Rattle.apart.specs.Reordered.{AllOnOne, AllLeaveFree, steps_on, Told, told, then_all, told_on, SameByFile, ListsReorder, PlayedApart}
use Rattle.apart.proofs.Commuting.{free_after_lem, free_before, files_commute}

-- ---- lists

itself : (n : ℕ) → eqb n n ≡ true
itself n = eq-eqb n n refl

-- the rest of a list that begins so
abbrev rest_of : List Step → List Step
rest_of [] = []
rest_of (x ∷ xs) = xs

abbrev is_empty : List Step → Bool
is_empty [] = true
is_empty (x ∷ xs) = false

-- every step is on file f
abbrev AllOn : ℕ → List Step → Type 0
AllOn f [] = Unit {0}
AllOn f (x ∷ xs) = (eqb (file_of x) f ≡ true) × AllOn f xs

-- a step on file f, and one that is not
differ : (f : ℕ) (x y : Step) → eqb (file_of x) f ≡ true → eqb (file_of y) f ≡ false → eqb (file_of x) (file_of y) ≡ false
differ f x y on off =
    ne_eqb (file_of x) (file_of y) (λ e. eqb-false (file_of y) f off (sym e ∙ eqb-true (file_of x) f on))

apart_too : (x y : Step) → eqb (file_of x) (file_of y) ≡ false → eqb (file_of y) (file_of x) ≡ false
apart_too x y other = ne_eqb (file_of y) (file_of x) (λ e. eqb-false (file_of x) (file_of y) other (sym e))

-- the steps on file f are all on it, and on one file each
all_on : (f : ℕ) (xs : List Step) → AllOnOne xs → AllOn f (steps_on f xs) × AllOnOne (steps_on f xs)
unfolding steps_on
all_on f [] w = (tt, tt)
all_on f (x ∷ xs) (one, w) =
    let (on, ones) = all_on f xs w in
    split (eqb (file_of x) f)
    (λ e. subst (λ (l : List Step). AllOn f l × AllOnOne l) (sym (when (x ∷ steps_on f xs) (steps_on f xs) e)) ((e, on), (one, ones)))
    (λ e. subst (λ (l : List Step). AllOn f l × AllOnOne l) (sym (unless (x ∷ steps_on f xs) (steps_on f xs) e)) (on, ones))

-- ---- steps that take or free no place

-- nor do they after a step on another file, and nor did they before it
all_after :
    (f : ℕ) (xs : List Step)
    → AllOn f xs
    → AllOnOne xs
    → (s : Service) (y : Step)
    → on_one_file y ≡ true
    → eqb (file_of y) f ≡ false
    → LeavesFree s y
    → AllLeaveFree s xs
    → AllLeaveFree (then s y) xs
all_after f [] on ones s y one off free all = tt
all_after f (x ∷ xs) (at, on) (is, ones) s y one off free (leaves, all) =
    let other = differ f x y at off in
    let other' = apart_too x y other in (
      free_after_lem s y x one is other' free leaves,
      subst (λ (t : Service). AllLeaveFree t xs) (files_commute s x y is one other leaves free).service
          (all_after f xs on ones (then s x) y one off (free_after_lem s x y is one other leaves free) all),
    )

all_before :
    (f : ℕ) (xs : List Step)
    → AllOn f xs
    → AllOnOne xs
    → (s : Service) (y : Step)
    → on_one_file y ≡ true
    → eqb (file_of y) f ≡ false
    → LeavesFree s y
    → AllLeaveFree (then s y) xs
    → AllLeaveFree s xs
all_before f [] on ones s y one off free all = tt
all_before f (x ∷ xs) (at, on) (is, ones) s y one off free (later, all) =
    let other = differ f x y at off in
    let leaves : LeavesFree s x = free_before s y x one is (apart_too x y other) free later in (
      leaves,
      all_before f xs on ones (then s x) y one off (free_after_lem s x y is one other leaves free)
          (subst (λ (t : Service). AllLeaveFree t xs) (sym (files_commute s x y is one other leaves free).service) all),
    )

-- of a list, the steps on each file
apart_free : (s : Service) (xs : List Step) → AllOnOne xs → AllLeaveFree s xs → (f : ℕ) → AllLeaveFree s (steps_on f xs)
unfolding steps_on
apart_free s [] w all f = tt
apart_free s (x ∷ xs) (one, w) (leaves, all) f =
    let rest = apart_free (then s x) xs w all f in
    let (on, ones) = all_on f xs w in
    split (eqb (file_of x) f)
    (λ e. subst (AllLeaveFree s) (sym (when (x ∷ steps_on f xs) (steps_on f xs) e)) (leaves, rest))
    (λ e.
    subst (AllLeaveFree s) (sym (unless (x ∷ steps_on f xs) (steps_on f xs) e))
    (all_before f (steps_on f xs) on ones s x one e leaves rest))

-- and the list, if the steps on each file do so
joined_free : (s : Service) (xs : List Step) → AllOnOne xs → ((f : ℕ) → AllLeaveFree s (steps_on f xs)) → AllLeaveFree s xs
unfolding steps_on
joined_free s [] w each = tt
joined_free s (x ∷ xs) (one, w) each =
    let (leaves, _) =
    subst (AllLeaveFree s) (when (x ∷ steps_on (file_of x) xs) (steps_on (file_of x) xs) (itself (file_of x))) (each (file_of x)) in
    (leaves, joined_free (then s x) xs w (later leaves))
  where
    later : LeavesFree s x → (f : ℕ) → AllLeaveFree (then s x) (steps_on f xs)
    later leaves f =
        let (on, ones) = all_on f xs w in
        split (eqb (file_of x) f)
        (λ e. (subst (AllLeaveFree s) (when (x ∷ steps_on f xs) (steps_on f xs) e) (each f)).1)
        (λ e.
        all_after f (steps_on f xs) on ones s x one e leaves
        (subst (AllLeaveFree s) (unless (x ∷ steps_on f xs) (steps_on f xs) e) (each f)))

-- ---- what the steps on a file get does not depend on a step on another
blind :
    (f : ℕ) (xs : List Step)
    → AllOn f xs
    → AllOnOne xs
    → (s : Service) (y : Step)
    → on_one_file y ≡ true
    → eqb (file_of y) f ≡ false
    → LeavesFree s y
    → AllLeaveFree s xs
    → told (then s y) xs ≡ told s xs
unfolding told
blind f [] on ones s y one off free all = refl
blind f (x ∷ xs) (at, on) (is, ones) s y one off free (leaves, all) =
    let other = differ f x y at off in
    let swap = files_commute s x y is one other leaves free in
    ap (λ g. record { step = x; got = g } ∷ told (then (then s y) x) xs) swap.first
    ∙ ap (λ (t : Service). record { step = x; got = gets s x } ∷ told t xs) (sym swap.service)
    ∙ ap (λ (ts : List Told). record { step = x; got = gets s x } ∷ ts)
    (blind f xs on ones (then s x) y one off (free_after_lem s x y is one other leaves free) all)

pub played_apart : PlayedApart
unfolding steps_on told told_on
played_apart s [] w all f = refl
played_apart s (x ∷ xs) (one, w) (leaves, all) f =
    let first : Told = record { step = x; got = gets s x } in
    let rest = played_apart (then s x) xs w all f in
    let (on, ones) = all_on f xs w in
    split (eqb (file_of x) f)
    (λ e.
    ap (told s) (when (x ∷ steps_on f xs) (steps_on f xs) e)
    ∙ ap (λ (ts : List Told). first ∷ ts) rest
    ∙ sym (when (first ∷ told_on f (told (then s x) xs)) (told_on f (told (then s x) xs)) e))
    (λ e.
    ap (told s) (unless (x ∷ steps_on f xs) (steps_on f xs) e)
    ∙ sym
    (blind f (steps_on f xs) on ones s x one e leaves
    (all_before f (steps_on f xs) on ones s x one e leaves (apart_free (then s x) xs w all f)))
    ∙ rest
    ∙ sym (unless (first ∷ told_on f (told (then s x) xs)) (told_on f (told (then s x) xs)) e))

-- ---- a step is pulled to the front
record Pulled (x : Step) (ys : List Step) : Type 0 where
  rest : List Step
  ones : AllOnOne rest
  service : (s : Service) → LeavesFree s x → AllLeaveFree s ys → then_all s ys ≡ then_all (then s x) rest
  same : SameByFile ys (x ∷ rest)

pulled : (x : Step) → on_one_file x ≡ true → (ys tail : List Step) → AllOnOne ys → steps_on (file_of x) ys ≡ x ∷ tail → Pulled x ys
unfolding steps_on then_all
pulled x is [] tail w e = absurd (true≢false (ap is_empty e))
pulled x is (y ∷ ys) tail (one, w) e =
    split (eqb (file_of y) (file_of x))
    (λ on.
    let same : y ≡ x = headed (sym (when (y ∷ steps_on (file_of x) ys) (steps_on (file_of x) ys) on) ∙ e) in
    record {
      rest = ys;
      ones = w;
      service = λ s leaves all. ap (λ (z : Step). then_all (then s z) ys) same;
      same = λ f. ap (λ (z : Step). steps_on f (z ∷ ys)) same;
    })
    (λ off.
    let p = pulled x is ys tail w (sym (unless (y ∷ steps_on (file_of x) ys) (steps_on (file_of x) ys) off) ∙ e) in
    record {
      rest = y ∷ p.rest;
      ones = (one, p.ones);
      service =
          λ s leaves all.
          p.service (then s y) (free_after_lem s y x one is off all.0 leaves) all.1
          ∙ ap (λ (t : Service). then_all t p.rest) (files_commute s y x one is off all.0 leaves).service;
      same = λ f. ahead f x y ys p.rest off (p.same f);
    })
  where
    headed : {xs zs : List Step} {y x : Step} → y ∷ xs ≡ x ∷ zs → y ≡ x
    headed {y = y} e = ap (λ (l : List Step). first y l) e
      where
        first : Step → List Step → Step
        first d [] = d
        first d (z ∷ zs) = z

    -- two that are on different files may change places
    ahead : (f : ℕ) (x y : Step) (ys rest : List Step) → eqb (file_of y) (file_of x) ≡ false
        → steps_on f ys ≡ steps_on f (x ∷ rest)
        → steps_on f (y ∷ ys) ≡ steps_on f (x ∷ y ∷ rest)
    ahead f x y ys rest off e =
        split (eqb (file_of y) f)
        (λ on.
        let other : eqb (file_of x) f ≡ false =
        ne_eqb (file_of x) f (λ q. eqb-false (file_of y) (file_of x) off (eqb-true (file_of y) f on ∙ sym q)) in
        when (y ∷ steps_on f ys) (steps_on f ys) on
        ∙ ap (λ (l : List Step). y ∷ l) (e ∙ unless (x ∷ steps_on f rest) (steps_on f rest) other)
        ∙ sym (when (y ∷ steps_on f rest) (steps_on f rest) on)
        ∙ sym (unless (x ∷ steps_on f (y ∷ rest)) (steps_on f (y ∷ rest)) other))
        (λ not.
        unless (y ∷ steps_on f ys) (steps_on f ys) not
        ∙ e
        ∙ ap (λ (l : List Step). cond (eqb (file_of x) f) (x ∷ l) l) (sym (unless (y ∷ steps_on f rest) (steps_on f rest) not)))

-- what stands after the same step
after_alike : (b : Bool) (x : Step) (k l : List Step) → cond b (x ∷ k) k ≡ cond b (x ∷ l) l → k ≡ l
after_alike true x k l e = ap rest_of e
after_alike false x k l e = e

-- the other list takes or frees no place either
also_free : (s : Service) (xs ys : List Step) → AllOnOne xs → AllOnOne ys → AllLeaveFree s xs → SameByFile xs ys → AllLeaveFree s ys
also_free s xs ys w v all same =
    joined_free s ys v (λ f. subst (AllLeaveFree s) (same f) (apart_free s xs w all f))

same_service :
    (xs ys : List Step)
    → AllOnOne xs
    → AllOnOne ys
    → SameByFile xs ys
    → (s : Service)
    → AllLeaveFree s xs
    → then_all s xs ≡ then_all s ys
unfolding steps_on then_all
same_service [] [] w v same s all = refl
same_service [] (y ∷ ys) w v same s all =
    absurd (true≢false (ap is_empty (same (file_of y) ∙ when (y ∷ steps_on (file_of y) ys) (steps_on (file_of y) ys) (itself (file_of y)))))
same_service (x ∷ xs) ys (one, w) v same s (leaves, all) =
    let f = file_of x in
    let p =
    pulled x one ys (steps_on f xs) v (sym (same f) ∙ when (x ∷ steps_on f xs) (steps_on f xs) (itself f)) in
    same_service xs p.rest w p.ones
    (λ g. after_alike (eqb (file_of x) g) x (steps_on g xs) (steps_on g p.rest) (same g ∙ p.same g))
    (then s x)
    all
    ∙ sym (p.service s leaves (also_free s (x ∷ xs) ys (one, w) v (leaves, all) same))

pub lists_reorder : ListsReorder
lists_reorder s xs ys w v all same =
    record {
      replies = λ f.
          sym (played_apart s xs w all f)
          ∙ ap (told s) (same f)
          ∙ played_apart s ys v (also_free s xs ys w v all same) f;
      service = same_service xs ys w v same s all;
    }
