-- What is said, word after word. Assumes nothing.
use Prim.Native.Nat.{ℕ, suc, ◌+◌, ◌/◌, ◌%◌, ◌≤◌, ◌<◌}
use mathlib.Core.Path.{◌≡◌, refl, sym, ap, ◌∙◌, subst, subst⁻¹}
use mathlib.Core.Bool.{false}
use mathlib.Core.List.{List, [], ◌∷◌, ◌++◌, append_assoc, append-nil}
use native.Mathlib.Nat.{mod-eq_of_lt}
use native.Mathlib.Numerals.{add-one}
use native.Mathlib.Omega.{arith}
use lib.ListN.{length, get_or, set, take, drop, length-set}
use lib.Seq.{take-suc-set, drop-set-lt, drop-drop, get_or-set_same, get_or-take}
use Rattle.sizes.proofs.Choosing.{conflict}
use Rattle.protocol.specs.declared.reply.Grant.{Grant}
use Rattle.protocol.specs.declared.reply.Granting.{Granting}
use Rattle.protocol.specs.declared.reply.Reply.{Reply}
use Rattle.protocol.specs.declared.reply.Reply.TheVariants.{Waiting, AnsweredGrant}
use Rattle.protocol.specs.Reply.{letter_of, values_of, grant_values, no_grants, grants_values}
use Rattle.words.specs.Words.{calls_held}
use Rattle.words.specs.Rows.{listed}
use Rattle.words.specs.Said.{said_room, calls?, grant_said, grants_said, reply_said, SaysIn, Begun}

pub begun_none : (ws : List ℕ) → Begun ws 0 [] ws
begun_none ws = record { first = refl; long = refl; past = refl }

-- one word more, and three
pub begun_next : (ws₀ vs ws : List ℕ) (n a : ℕ) → n < length ws → Begun ws₀ n vs ws → Begun ws₀ (suc n) (vs ++ (a ∷ [])) (set ws n a)
begun_next ws₀ vs ws n a h b =
    record {
      first = take-suc-set ws n a h ∙ ap (λ (l : List ℕ). l ++ (a ∷ [])) b.first;
      long = length-set ws n a ∙ b.long;
      past =
          drop-set-lt (suc n) ws n a (omega arith)
          ∙ ap (λ k. drop k ws) (sym (add-one n))
          ∙ sym (drop-drop 1 n ws)
          ∙ ap (drop 1) b.past
          ∙ drop-drop 1 n ws₀
          ∙ ap (λ k. drop k ws₀) (add-one n);
    }

pub begun_three :
    (ws₀ vs ws : List ℕ) (n a b c : ℕ)
    → n + 3 ≤ length ws
    → Begun ws₀ n vs ws
    → Begun ws₀ (n + 3) (vs ++ (a ∷ b ∷ c ∷ [])) (set (set (set ws n a) (n + 1) b) (n + 2) c)
begun_three ws₀ vs ws n a b c h begun =
    let one : suc n ≡ n + 1 = omega arith in
    let two : suc (suc n) ≡ n + 2 = omega arith in
    let three : suc (suc (suc n)) ≡ n + 3 = omega arith in
    let w₁ = set ws n a in
    let w₂ = set w₁ (suc n) b in
    let long₁ : length w₁ ≡ length ws = length-set ws n a in
    let long₂ : length w₂ ≡ length ws = length-set w₁ (suc n) b ∙ long₁ in
    let told =
    begun_next ws₀ ((vs ++ (a ∷ [])) ++ (b ∷ [])) w₂ (suc (suc n)) c (omega (arith, long₂))
    (begun_next ws₀ (vs ++ (a ∷ [])) w₁ (suc n) b (omega (arith, long₁))
    (begun_next ws₀ vs ws n a (omega arith) begun))
    in
    let grouped : ((vs ++ (a ∷ [])) ++ (b ∷ [])) ++ (c ∷ []) ≡ vs ++ (a ∷ b ∷ c ∷ []) =
    append_assoc (vs ++ (a ∷ [])) (b ∷ []) (c ∷ []) ∙ append_assoc vs (a ∷ []) (b ∷ c ∷ [])
    in
    subst (λ l. Begun ws₀ (n + 3) l (set (set (set ws n a) (n + 1) b) (n + 2) c)) grouped
    (subst (λ k. Begun ws₀ (n + 3) (((vs ++ (a ∷ [])) ++ (b ∷ [])) ++ (c ∷ [])) (set (set (set ws n a) k b) (n + 2) c)) one
    (subst (λ k. Begun ws₀ (n + 3) (((vs ++ (a ∷ [])) ++ (b ∷ [])) ++ (c ∷ [])) (set w₂ k c)) two
    (subst (λ k. Begun ws₀ k (((vs ++ (a ∷ [])) ++ (b ∷ [])) ++ (c ∷ [])) (set w₂ (suc (suc n)) c)) three told)))

pub begun_two : (ws : List ℕ) (a b : ℕ) → 2 ≤ length ws → Begun ws 2 (a ∷ b ∷ []) (set (set ws 0 a) 1 b)
begun_two ws a b h =
    begun_next ws (a ∷ []) (set ws 0 a) 1 b (omega (arith, length-set ws 0 a)) (begun_next ws [] ws 0 a (omega arith) (begun_none ws))

pub second_as : (a b c : ℕ) (vs : List ℕ) → b ≡ c → a ∷ b ∷ vs ≡ a ∷ c ∷ vs
second_as a b c vs e = ap (λ x. a ∷ x ∷ vs) e

-- where nothing is granted to others, there is no word of it
pub ungranted : grants_values no_grants ≡ []
unfolding grants_values
ungranted = refl

-- K with no words after it grants nothing to others; nor does an answer with one word, or with five
pub none_done : (ws : List ℕ) → grants_said 75 ws ≡ no_grants
unfolding listed
none_done ws = refl

pub none_answered : {ws₀ vs ws : List ℕ} → Begun ws₀ 1 vs ws → grants_said 321 ws ≡ no_grants
unfolding listed
none_answered b = refl

pub none_further : {ws₀ vs ws : List ℕ} → Begun ws₀ 5 vs ws → grants_said 1345 ws ≡ no_grants
unfolding listed
none_further b = refl

-- a reply that has its values in the first words, and grants nothing to others
pub says_values :
    (said n : ℕ) (ws₀ vs ws : List ℕ) (reply : Reply) (calls : List ℕ)
    → said / 256 ≡ n
    → said % 256 ≡ letter_of reply
    → calls? (letter_of reply) ≡ false
    → n ≤ said_room
    → vs ≡ values_of reply
    → Begun ws₀ n vs ws
    → reply_said said ws ≡ reply
    → grants_said said ws ≡ no_grants
    → SaysIn ws₀ said ws reply calls no_grants
says_values said n ws₀ vs ws reply calls count letter plain short same b back none =
    record {
      says =
          record {
            letter = letter;
            values = λ q.
                ap (λ k. take k ws) count
                ∙ b.first
                ∙ same
                ∙ sym (ap (λ (l : List ℕ). values_of reply ++ l) ungranted ∙ append-nil (values_of reply));
            called = λ q. conflict q plain;
            back = back;
            granted = none;
          };
      short = omega (arith, count);
      long = b.long;
      past = ap (λ k. drop k ws) count ∙ b.past ∙ ap (λ k. drop k ws₀) (sym count);
    }

-- the calls, as one word
pub says_calls : (ws : List ℕ) (w : ℕ) (calls : List ℕ) → length ws ≡ said_room → calls_held w ≡ calls → SaysIn ws 343 (set ws 0 w) Waiting calls no_grants
says_calls ws w calls long is =
    let there : 0 < length ws = omega (arith, long) in
    let b = begun_next ws [] ws 0 w there (begun_none ws) in
    record {
      says =
          record {
            letter = refl;
            values = λ q. conflict refl q;
            called = λ q. ap calls_held (get_or-set_same ws 0 w 0 there) ∙ is;
            back = refl;
            granted = refl;
          };
      short = omega arith;
      long = b.long;
      past = b.past;
    }

pub says_as :
    (ws₀ : List ℕ) (said : ℕ) (ws : List ℕ) (reply known : Reply) (calls : List ℕ) (grants : List Granting)
    → reply ≡ known
    → SaysIn ws₀ said ws known calls grants
    → SaysIn ws₀ said ws reply calls grants
says_as ws₀ said ws reply known calls grants e s = subst⁻¹ (λ (r : Reply). SaysIn ws₀ said ws r calls grants) e s

-- ---- read back

-- a word that was said
pub begun_at : (ws₀ vs ws : List ℕ) (n k : ℕ) → k < n → Begun ws₀ n vs ws → get_or ws k 0 ≡ get_or vs k 0
begun_at ws₀ vs ws n k h b = sym (get_or-take n ws k 0 h) ∙ ap (λ (l : List ℕ). get_or l k 0) b.first

-- an answer that grants, in five words
pub answer_back :
    (ws₀ ws : List ℕ) (sent who w : ℕ) (g : Grant)
    → Begun ws₀ 5 (sent ∷ w ∷ grant_values g) ws
    → w ≡ who
    → w < 256
    → grant_said ws 2 ≡ g
    → reply_said 1345 ws ≡ AnsweredGrant sent who g
answer_back ws₀ ws sent who w g b is low grant =
    rw (
      begun_at ws₀ _ ws 5 0 (omega arith) b,
      begun_at ws₀ _ ws 5 1 (omega arith) b,
      mod-eq_of_lt low,
      is,
      grant,
    )

-- the first word, where it is the only one
pub first_back : (ws : List ℕ) (a : ℕ) → 0 < length ws → get_or (set ws 0 a) 0 0 ≡ a
first_back ws a h = get_or-set_same ws 0 a 0 h
