-- `forget_files` meets its contract: file by file. Assumes nothing.
use Rattle.std.proofs.Common.{ℕ, ◌+◌, ◌*◌, ◌≤◌, ◌≡◌, refl, sym, ◌∙◌, List, [], length, take, arith}
use native.Mathlib.Numerals.{add-one}
use lib.Seq.{length-take-le}
use Rattle.words.specs.Said.{said_room, Begun}
use Rattle.service.proofs.EmbargoServing.{forgets_none, forgets_as, forgets-next}
use Rattle.service.proofs.embargo.forget_files.Goals as goal

-- so far, whatever came before: the words that came are the first of themselves
done :
    (from k at : ℕ) (t t₀ words words₀ : List ℕ)
    → ((came pre : List ℕ) → Begun came from pre words₀ → length pre ≡ from
    → (length t ≡ length t₀) × (length words ≡ length came) × (at ≤ length pre + 4 * k))
    → length words₀ ≡ said_room
    → from ≤ 8
    → (length t ≡ length t₀) × (length words ≡ length words₀) × (at ≤ from + 4 * k)
done from k at t t₀ words words₀ h long low =
    let pre = take from words₀ in
    let is = length-take-le from words₀ (omega (arith, long, low)) in
    let all = h words₀ pre (record { first = refl; long = refl; past = refl }) is in
    (all.0, all.1, omega (arith, all.2, is))

pub loop-file-init : goal.loop-file-init
loop-file-init c = (omega arith, λ came pre begun is. forgets_none _ _ _ _ _ _ _ _ begun is)

pub forget-reply-requires-clause-table_len : goal.forget-reply-requires-clause-table_len
forget-reply-requires-clause-table_len c =
    (done c.args.from c.loop-file.file c.loop-file.at c.loop-file.table c.args.table.now c.loop-file.words c.args.words.now
    (λ came pre begun is.
    let all = c.loop-file.invariant.1 came pre begun is in
    (all.long, (all.said c.args.sizes []).begun.long, all.few))
    c.requires.words_len c.requires.from_bound).0
    ∙ c.requires.table_len

pub say_brought-at-requires-clause-words_len : goal.say_brought-at-requires-clause-words_len
say_brought-at-requires-clause-words_len c =
    (done c.args.from c.loop-file.file c.loop-file.at c.loop-file.table c.args.table.now c.loop-file.words c.args.words.now
    (λ came pre begun is.
    let all = c.loop-file.invariant.1 came pre begun is in
    (all.long, (all.said c.args.sizes []).begun.long, all.few))
    c.requires.words_len c.requires.from_bound).1
    ∙ c.requires.words_len

pub say_brought-at-requires-clause-at_bound : goal.say_brought-at-requires-clause-at_bound
say_brought-at-requires-clause-at_bound c =
    let few =
    (done c.args.from c.loop-file.file c.loop-file.at c.loop-file.table c.args.table.now c.loop-file.words c.args.words.now
    (λ came pre begun is.
    let all = c.loop-file.invariant.1 came pre begun is in
    (all.long, (all.said c.args.sizes []).begun.long, all.few))
    c.requires.words_len c.requires.from_bound).2 in
    omega (arith, few, c.loop-file-test.true, c.requires.permitted.files, c.requires.from_bound)

pub loop-file-preserved : goal.loop-file-preserved
loop-file-preserved c =
    let below = c.loop-file-test.true in (
      omega (arith, below),
      λ came pre begun is.
          forgets_as (sym (add-one _))
          (forgets-next c.requires.permitted below (c.loop-file.invariant.1 came pre begun is) _ _ _ _ _
          c.forget-reply.ensures.by_index
          c.say_brought-at.ensures.by_index_2
          c.say_brought-at.ensures.upper_bound),
    )

pub returns : goal.returns
returns c =
    let past = c.loop-file-test.false in
    let upto = c.loop-file.invariant.0 in
    let all : c.loop-file.file ≡ c.args.sizes.files = omega (arith, past, upto) in
    λ came pre begun is. forgets_as all (c.loop-file.invariant.1 came pre begun is)
