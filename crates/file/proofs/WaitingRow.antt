-- The row after an open that waits: the head and the callbacks are others. Assumes nothing.
use Prim.Native.Nat.{ℕ, ◌+◌, ◌*◌, ◌≤◌}
use mathlib.Core.Path.{◌≡◌, sym, ap, ◌∙◌}
use mathlib.Core.List.{List}
use mathlib.Core.Logic.{◌≢◌}
use native.Mathlib.Omega.{arith}
use lib.ListN.{length, set, length-set}
use Rattle.sizes.specs.Sizes.{max_clients}
use Rattle.protocol.specs.declared.entry.Entry.{Entry}
use Rattle.words.specs.Words.{record_held, side_held, calls_held, Head}
use Rattle.words.specs.Rows.{row_words, word_at, entry_held, sides_held, Puts}
use Rattle.words.proofs.Listing.{listed_agree}
use Rattle.words.proofs.Places.{stored_there, stored_beside, stored_elsewhere}

pub wait_puts :
    (t : List ℕ) (f h k : ℕ) (e : Entry)
    → f * row_words + row_words ≤ length t
    → e.records ≡ (entry_held t f).records
    → Head h e.version e.last e.waiter e.mode
    → calls_held k ≡ e.calls
    → Puts f (record { entry = e; sides = sides_held t f }) t (set (set t (f * row_words + 1) h) (f * row_words + 18) k)
wait_puts t f h k e fits records head calls =
    let one = set t (f * row_words + 1) h in
    let two = set one (f * row_words + 18) k in
    let long : length one ≡ length t = length-set t (f * row_words + 1) h in
    let kept : (j : ℕ) → j ≢ 1 → j ≢ 18 → word_at two f j ≡ word_at t f j =
    λ j a b. stored_beside one f 18 k j b ∙ stored_beside t f 1 h j a in
    record {
      long = length-set one (f * row_words + 18) k ∙ long;
      here =
          rw (
            stored_beside one f 18 k 1 (λ e. omega arith) ∙ stored_there t f 1 h (omega arith),
            stored_there one f 18 k (omega arith),
            listed_agree max_clients (λ i. record_held (word_at two f (2 + i))) (λ i. record_held (word_at t f (2 + i)))
                (λ i lt. ap record_held (kept (2 + i) (λ e. omega arith) (λ e. omega arith)))
                ∙ sym records,
            listed_agree max_clients (λ i. side_held (word_at two f (10 + i))) (λ i. side_held (word_at t f (10 + i)))
                (λ i lt. ap side_held (kept (10 + i) (λ e. omega arith) (λ e. omega arith))),
            head.version,
            head.last,
            head.waiter,
            head.mode,
            calls,
          );
      beside =
          λ g j off lt.
          stored_elsewhere one f 18 k g j (omega arith) lt off ∙ stored_elsewhere t f 1 h g j (omega arith) lt off;
    }
