-- Splitting an input into lines at the end of a line. Assumes nothing.
use Prim.Native.Nat.{ℕ, ◌+◌}
use mathlib.Core.Path.{◌≡◌, refl, sym, ◌∙◌, ap}
use mathlib.Core.Bool.{Bool, true, false}
use mathlib.Core.List.{List, [], ◌∷◌, ◌++◌, append_assoc}
use lib.Dec.{eqb}
use lib.ListN.{length, length-append}
use Rattle.stepfile.specs.Transcript.{before, lines, BreaksLine}
use Rattle.sizes.proofs.Choosing.{split}

-- no byte is LF
abbrev pub NoLF : List ℕ → Type 0
NoLF [] = Unit {0}
NoLF (b ∷ l) = (eqb b 10 ≡ false) × NoLF l

pub no_lf_append : (a b : List ℕ) → NoLF a → NoLF b → NoLF (a ++ b)
no_lf_append [] b ha hb = hb
no_lf_append (x ∷ a) b ha hb = (ha.0, no_lf_append a b ha.1 hb)

-- what a byte does to the lines after it
before_lf : (b : ℕ) (ls : List (List ℕ)) → eqb b 10 ≡ true → before (eqb b 10) b ls ≡ [] ∷ ls
before_lf b ls e = ap (λ t. before t b ls) e

before_other : (b : ℕ) (l : List ℕ) (ls : List (List ℕ)) → eqb b 10 ≡ false → before (eqb b 10) b (l ∷ ls) ≡ (b ∷ l) ∷ ls
before_other b l ls e = ap (λ t. before t b (l ∷ ls)) e

before_append : (t : Bool) (b : ℕ) (l : List ℕ) (ls ms : List (List ℕ)) → before t b ((l ∷ ls) ++ ms) ≡ before t b (l ∷ ls) ++ ms
before_append true b l ls ms = refl
before_append false b l ls ms = refl

-- a line with its LF, and what follows it
pub lines_line : (l r : List ℕ) → NoLF l → lines (l ++ (10 ∷ r)) ≡ l ∷ lines r
unfolding lines
lines_line [] r h = refl
lines_line (b ∷ l) r h = ap (before (eqb b 10) b) (lines_line l r h.1) ∙ before_other b l (lines r) h.0

-- a line without LF, at the end of the input: LF after it makes no difference
pub lines_last : (b : ℕ) (l : List ℕ) → NoLF (b ∷ l) → lines (b ∷ l) ≡ (b ∷ l) ∷ []
unfolding lines
lines_last b [] h = ap (λ t. before t b []) h.0
lines_last b (x ∷ l) h = ap (before (eqb b 10) b) (lines_last x l h.1) ∙ before_other b (x ∷ l) [] h.0

-- an input whose last byte is LF has a first line
some_line : (p : List ℕ) → (l : List ℕ) × (ls : List (List ℕ)) × (lines (p ++ (10 ∷ [])) ≡ l ∷ ls)
unfolding lines
some_line [] = ([], [], refl)
some_line (b ∷ p) =
    let w = some_line p in
    split (eqb b 10)
    (λ e. ([], lines (p ++ (10 ∷ [])), before_lf b _ e))
    (λ e. (b ∷ w.0, w.1, ap (before (eqb b 10) b) w.2 ∙ before_other b w.0 w.1 e))

-- after LF a new line starts, and so after nothing
pub breaks_none : BreaksLine []
unfolding lines
breaks_none b = refl

pub breaks_lf : (p : List ℕ) → BreaksLine (p ++ (10 ∷ []))
unfolding lines
breaks_lf [] b = refl
breaks_lf (x ∷ p) b =
    let w = some_line p in
    ap (before (eqb x 10) x) (breaks_lf p b ∙ ap (λ ls. ls ++ lines b) w.2)
    ∙ before_append (eqb x 10) x w.0 w.1 (lines b)
    ∙ ap (λ ls. before (eqb x 10) x ls ++ lines b) (sym w.2)

pub breaks_append : (a b : List ℕ) → BreaksLine a → BreaksLine b → BreaksLine (a ++ b)
breaks_append a b ha hb c =
    ap lines (append_assoc a b c)
    ∙ ha (b ++ c)
    ∙ ap (λ ls. lines a ++ ls) (hb c)
    ∙ sym (append_assoc (lines a) (lines b) (lines c))
    ∙ ap (λ ls. ls ++ lines c) (sym (ha b))

-- one line more
pub breaks_line : (a l : List ℕ) → BreaksLine a → BreaksLine (a ++ (l ++ (10 ∷ [])))
breaks_line a l h = breaks_append a (l ++ (10 ∷ [])) h (breaks_lf l)

pub lines_more : (a l : List ℕ) → BreaksLine a → NoLF l → lines (a ++ (l ++ (10 ∷ []))) ≡ lines a ++ (l ∷ [])
unfolding lines
lines_more a l h none = h (l ++ (10 ∷ [])) ∙ ap (λ ls. lines a ++ ls) (lines_line l [] none)

pub count_more : (a l : List ℕ) → BreaksLine a → NoLF l → length (lines (a ++ (l ++ (10 ∷ [])))) ≡ length (lines a) + 1
count_more a l h none = ap length (lines_more a l h none) ∙ length-append (lines a) (l ∷ [])

-- the last line, with LF put after it
pub lines_completed : (a : List ℕ) (b : ℕ) (l : List ℕ) → BreaksLine a → NoLF (b ∷ l) → lines (a ++ ((b ∷ l) ++ (10 ∷ []))) ≡ lines (a ++ (b ∷ l))
lines_completed a b l h none =
    lines_more a (b ∷ l) h none ∙ ap (λ ls. lines a ++ ls) (sym (lines_last b l none)) ∙ sym (h (b ∷ l))
