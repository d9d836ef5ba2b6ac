-- The opens of others that were granted, said one after the other, and read back. Assumes nothing.
use Prim.Native.Nat.{ℕ, zero, suc, ◌+◌, ◌-◌, ◌*◌, ◌/◌, ◌%◌, ◌≤◌, ◌<◌}
use mathlib.Core.Path.{◌≡◌, refl, sym, ap, ◌∙◌, subst, subst⁻¹}
use mathlib.Core.Bool.{false, cond}
use mathlib.Core.List.{List, [], ◌∷◌, ◌++◌, append_assoc, append-nil}
use mathlib.Core.Logic.{⊎_elim}
use native.Mathlib.Nat.{eq-or-lt_of_le, le_of_suc-le-suc}
use native.Mathlib.Omega.{arith}
use lib.Dec.{eqb, ltb}
use lib.ListN.{length, get_or, take, drop, replicate, length-append, length-replicate, get_or-append}
use lib.Seq.{ext_get_or, get_or-append-add, get_or-append_seam, get_or-take, length-take-le}
use borrow.Author.Tests.{lt-ltb, le-ltb, ltb-true, ltb-false, ne_eqb}
use Rattle.sizes.proofs.Choosing.{split, conflict, when, unless}
use Rattle.sizes.specs.Sizes.{max_files, nobody}
use Rattle.decision.proofs.Beyond.{get_d_alike}
use Rattle.protocol.specs.declared.reply.Grant.{Grant}
use Rattle.protocol.specs.declared.reply.Granting.{Granting}
use Rattle.protocol.specs.declared.reply.Reply.{Reply}
use Rattle.protocol.specs.declared.reply.Reply.TheVariants.{Answered, AnsweredGrant, Done}
use Rattle.protocol.specs.Reply.{grant_values, no_calls, no_granting, no_grants, placed, grants_values}
use Rattle.words.specs.Rows.{listed}
use Rattle.words.specs.Said.{granting_said, grants_from, Begun, SaysIn, Named, grants_flat, SaidSoFar}
use Rattle.words.proofs.Listing.{length_listed, get_d_listed}
use Rattle.words.proofs.SaidWords.{begun_at, says_values, none_answered}

-- ---- one more

pub said_none : (words₀ pre words : List ℕ) → Begun words₀ (length pre) pre words → SaidSoFar words₀ pre [] words
said_none words₀ pre words begun =
    let none : length pre ≡ length pre + 4 * 0 = omega arith in
    record {
      named = tt;
      begun =
          subst (λ n. Begun words₀ n (pre ++ []) words) none
          (subst (λ (l : List ℕ). Begun words₀ (length pre) l words) (sym (append-nil pre)) begun);
      back = λ j h. absurd (omega arith);
    }

named_more : (gs : List Granting) (g : Granting) → Named gs → eqb g.client nobody ≡ false → Named (gs ++ (g ∷ []))
named_more [] g named is = (is, tt)
named_more (h ∷ gs) g named is = (named.0, named_more gs g named.1 is)

flat_more : (gs : List Granting) (g : Granting) → grants_flat (gs ++ (g ∷ [])) ≡ grants_flat gs ++ (g.client ∷ grant_values g.grant)
flat_more [] g = refl
flat_more (h ∷ gs) g =
    ap (λ (l : List ℕ). (h.client ∷ grant_values h.grant) ++ l) (flat_more gs g)
    ∙ sym (append_assoc (h.client ∷ grant_values h.grant) (grants_flat gs) (g.client ∷ grant_values g.grant))

-- one more is said, as `say_granting` says it after the first `at` words; or none
module _ (words₀ pre : List ℕ) (gs : List Granting) (ws : List ℕ) (so : SaidSoFar words₀ pre gs ws) where
  pub said_more :
      (ws' : List ℕ) (at who : ℕ) (grant : Grant)
      → at ≡ length pre + 4 * length gs
      → eqb who nobody ≡ false
      → ((words₀ vs : List ℕ) → Begun words₀ at vs ws → Begun words₀ (at + 4) (vs ++ (who ∷ grant_values grant)) ws')
      → granting_said ws' at ≡ record { client = who; grant = grant }
      → ((j : ℕ) → j + 4 ≤ at → granting_said ws' j ≡ granting_said ws j)
      → SaidSoFar words₀ pre (gs ++ (record { client = who; grant = grant } ∷ [])) ws'
  said_more ws' at who grant place is begun there kept =
      let g : Granting = record { client = who; grant = grant } in
      let long : length (gs ++ (g ∷ [])) ≡ length gs + 1 = length-append gs (g ∷ []) in
      let count : at + 4 ≡ length pre + 4 * length (gs ++ (g ∷ [])) = omega (arith, long, place) in
      let said : List ℕ = pre ++ grants_flat gs in
      let here : Begun words₀ at said ws = subst (λ n. Begun words₀ n said ws) (sym place) so.begun in
      let grouped : said ++ (who ∷ grant_values grant) ≡ pre ++ grants_flat (gs ++ (g ∷ [])) =
      append_assoc pre (grants_flat gs) (who ∷ grant_values grant) ∙ ap (λ (l : List ℕ). pre ++ l) (sym (flat_more gs g)) in
      record {
        named = named_more gs g so.named is;
        begun =
            subst (λ n. Begun words₀ n (pre ++ grants_flat (gs ++ (g ∷ []))) ws') count
            (subst (λ (l : List ℕ). Begun words₀ (at + 4) l ws') grouped (begun words₀ said here));
        back =
            λ j h.
            let below : j < suc (length gs) = omega (arith, h, long) in
            ⊎_elim
            (λ (e : j ≡ length gs).
            rw (e, ← place) (there ∙ sym (get_or-append_seam gs g [] no_granting)))
            (λ (less : j < length gs).
            kept (length pre + 4 * j) (omega (arith, less, place))
            ∙ so.back j less
            ∙ sym (get_or-append gs (g ∷ []) no_granting j less))
            (eq-or-lt_of_le (le_of_suc-le-suc below));
      }

  pub said_same : SaidSoFar words₀ pre (gs ++ []) ws
  said_same = subst (λ (l : List Granting). SaidSoFar words₀ pre l ws) (sym (append-nil gs)) so

-- ---- all of them

-- the numbers of those that stand in their places
values_padded : (m n : ℕ) → grants_values (take n (replicate m no_granting)) ≡ []
unfolding grants_values
values_padded m zero = refl
values_padded zero (suc n) = refl
values_padded (suc m) (suc n) = refl

values_flat :
    (gs : List Granting) (m n : ℕ) → length gs ≤ n → Named gs → grants_values (take n (gs ++ replicate m no_granting)) ≡ grants_flat gs
unfolding grants_values
values_flat [] m n fits named = values_padded m n
values_flat (g ∷ gs) m zero fits named = absurd (omega arith)
values_flat (g ∷ gs) m (suc n) fits named =
    let rest = grants_values (take n (gs ++ replicate m no_granting)) in
    unless [] ((g.client ∷ grant_values g.grant) ++ rest) named.0
    ∙ ap (λ (l : List ℕ). (g.client ∷ grant_values g.grant) ++ l) (values_flat gs m n (omega arith) named.1)

length_placed : (gs : List Granting) → length (placed gs) ≡ max_files
length_placed gs =
    length-take-le max_files (gs ++ no_grants) (omega (arith, length-append gs no_grants, length-replicate max_files no_granting))

placed_there : (gs : List Granting) (k : ℕ) → k < max_files → k < length gs → get_or (placed gs) k no_granting ≡ get_or gs k no_granting
placed_there gs k below less =
    get_or-take max_files (gs ++ no_grants) k no_granting below ∙ get_or-append gs no_grants no_granting k less

placed_past : (gs : List Granting) (k : ℕ) → k < max_files → length gs ≤ k → get_or (placed gs) k no_granting ≡ no_granting
placed_past gs k below past =
    let rest = k - length gs in
    get_or-take max_files (gs ++ no_grants) k no_granting below
    ∙ ap (λ n. get_or (gs ++ no_grants) n no_granting) (omega arith)
    ∙ get_or-append-add gs no_grants rest no_granting
    ∙ get_d_alike max_files no_granting rest

-- those that stand from a word on are read back
from_back :
    (gs : List Granting) (words : List ℕ) (from count : ℕ)
    → count ≡ from + 4 * length gs
    → ((k : ℕ) → k < length gs → granting_said words (from + 4 * k) ≡ get_or gs k no_granting)
    → grants_from from count words ≡ placed gs
from_back gs words from count is back =
    let grant_at : ℕ → Granting = λ k. cond (ltb (from + 4 * k) count) (granting_said words (from + 4 * k)) no_granting in
    let size : length (listed max_files grant_at) ≡ max_files = length_listed max_files grant_at in
    let read_back : (k : ℕ) → k < max_files → grant_at k ≡ get_or (placed gs) k no_granting =
    λ k below.
    split (ltb k (length gs))
    (λ e.
    let less = ltb-true k (length gs) e in
    when (granting_said words (from + 4 * k)) no_granting (lt-ltb (from + 4 * k) count (omega (arith, less, is)))
    ∙ back k less
    ∙ sym (placed_there gs k below less))
    (λ e.
    let past = ltb-false k (length gs) e in
    unless (granting_said words (from + 4 * k)) no_granting (le-ltb (from + 4 * k) count (omega (arith, past, is)))
    ∙ sym (placed_past gs k below past)) in
    ext_get_or no_granting (listed max_files grant_at) (placed gs) (size ∙ sym (length_placed gs))
    (λ k h.
    let below : k < max_files = omega (arith, h, size) in
    get_d_listed max_files grant_at no_granting k below ∙ read_back k below)

module _ (words₀ : List ℕ) (gs : List Granting) (words : List ℕ) (said : ℕ) (fits : length gs ≤ max_files) where
  -- K, and then each of them
  pub grants_said_lem :
      SaidSoFar words₀ [] gs words → said ≡ 75 + 256 * (4 * length gs) → SaysIn words₀ said words Done no_calls (placed gs)
  grants_said_lem so is =
      let letter : said % 256 ≡ 75 = omega (arith, is) in
      let count : said / 256 ≡ 4 * length gs = omega (arith, is) in
      let long : said / 256 ≡ 0 + 4 * length gs = omega (arith, count) in
      record {
        says =
            record {
              letter = letter;
              values = λ q.
                  ap (λ n. take n words) long
                  ∙ so.begun.first
                  ∙ sym (values_flat gs max_files max_files fits so.named);
              called = λ q. conflict q refl;
              back = rw letter;
              granted =
                  when (grants_from 0 (said / 256) words) _ (ap (λ x. eqb x 75) letter)
                  ∙ from_back gs words 0 (said / 256) long so.back;
            };
        short = omega (arith, count, fits);
        long = so.begun.long;
        past = ap (λ n. drop n words) long ∙ so.begun.past ∙ ap (λ n. drop n words₀) (sym long);
      }

-- A 0, and then each of them: the first stands in the reply
abbrev pub answer_granting : List Granting → Reply
answer_granting [] = Answered 0
answer_granting (g ∷ gs) = AnsweredGrant 0 g.client g.grant

abbrev pub further : List Granting → List Granting
further [] = []
further (g ∷ gs) = gs

pub answer_grants_said :
    (words₀ : List ℕ) (gs : List Granting) (words : List ℕ) (said : ℕ)
    → length gs ≤ max_files
    → SaidSoFar words₀ (0 ∷ []) gs words
    → said ≡ 65 + 256 * (1 + 4 * length gs)
    → SaysIn words₀ said words (answer_granting gs) no_calls (placed (further gs))
answer_grants_said words₀ [] words said fits so is =
    let alone : said ≡ 321 = omega (arith, is) in
    let begun : Begun words₀ 1 (0 ∷ []) words = so.begun in
    subst⁻¹ (λ n. SaysIn words₀ n words (Answered 0) no_calls no_grants) alone
    (says_values 321 1 words₀ (0 ∷ []) words (Answered 0) no_calls refl refl refl (omega arith) refl begun
    (ap Answered (begun_at words₀ (0 ∷ []) words 1 0 (omega arith) begun)) (none_answered begun))
answer_grants_said words₀ (g ∷ gs) words said fits so is =
    let n : ℕ = 1 + 4 * length (g ∷ gs) in
    let letter : said % 256 ≡ 65 = omega (arith, is) in
    let count : said / 256 ≡ n = omega (arith, is) in
    let five : said / 256 ≡ 5 + 4 * length gs = omega (arith, is) in
    let sent : get_or words 0 0 ≡ 0 = begun_at words₀ _ words n 0 (omega arith) so.begun in
    let first : granting_said words 1 ≡ g = so.back 0 (omega arith) in
    let several : eqb (said / 256) 1 ≡ false = ne_eqb (said / 256) 1 (λ e. omega (arith, e, five)) in
    record {
      says =
          record {
            letter = letter;
            values = λ q.
                subst⁻¹ (λ (l : List ℕ). take (said / 256) words ≡ (0 ∷ g.client ∷ grant_values g.grant) ++ l)
                (values_flat gs max_files max_files (omega arith) so.named.1)
                (ap (λ n. take n words) count ∙ so.begun.first);
            called = λ q. conflict q refl;
            back =
                rw (letter, several, sent) (ap (λ (x : Granting). AnsweredGrant 0 x.client x.grant) first);
            granted =
                rw letter
                (from_back gs words 5 (said / 256) five
                (λ k less.
                let place : 5 + 4 * k ≡ 1 + 4 * suc k = omega arith in
                ap (granting_said words) place ∙ so.back (suc k) (omega (arith, less))));
          };
      short = omega (arith, count, fits);
      long = so.begun.long;
      past = ap (λ n. drop n words) count ∙ so.begun.past ∙ ap (λ n. drop n words₀) (sym count);
    }
