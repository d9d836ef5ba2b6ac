-- A step on file f, an open, a close, a flush or an answer, looks at no blocks and copies but those of file f, and
-- leaves those of all others. Assumes nothing.
use Prim.Native.Nat.{ℕ, ◌<◌}
use mathlib.Core.Path.{◌≡◌, refl, ap, subst}
use mathlib.Core.Bool.{Bool, true, false, cond}
use mathlib.Core.List.{List}
use lib.Dec.{eqb, leb}
use borrow.Author.Tests.{eqb-true, leb-false}
use Rattle.records.specs.declared.record.Mode.{Mode}
use Rattle.sizes.proofs.Choosing.{split, conflict, unless}
use Rattle.sizes.proofs.InForce.{client_fits, block_fits}
use Rattle.sizes.specs.declared.sizes.Sizes.{Sizes}
use Rattle.sizes.specs.Sizes.{Permitted, max_clients, max_blocks}
use Rattle.decision.specs.Lists.{first_of}
use Rattle.protocol.specs.declared.reply.Grant.{Grant}
use Rattle.protocol.specs.declared.reply.Reply.{Reply}
use Rattle.protocol.specs.declared.reply.Reply.TheVariants.{Granted, Refused, Answered, AnsweredGrant}
use Rattle.protocol.specs.declared.shared.SharedFile.{SharedFile}
use Rattle.protocol.specs.declared.step.Step.{Step}
use Rattle.protocol.specs.declared.step.Step.TheVariants.{Open, Close, Read, Write, Flush, Answer, Crash}
use Rattle.protocol.specs.declared.step.Step.TheVariants.{Report, End, Restart, Embargo, Lift}
use Rattle.protocol.specs.Step.{Class, OnFile, OnBlock, OnTable, OnAll, class_of}
use Rattle.protocol.specs.Step.{FileAct, opens, closes, flushes, answers, nothing, file_act}
use Rattle.protocol.specs.Client.{side_of, with_side, keeps_blocks, answered_client}
use Rattle.protocol.specs.Entry.{call_to, calls_out, calls_for, grant_of, answered_entry}
use Rattle.protocol.specs.Reply.{is_refused}
use Rattle.protocol.specs.Refusal.{Test, open_tests, close_tests, flush_tests, answer_tests}
use Rattle.protocol.proofs.Tested.{named, named_block}
use Rattle.blocks.specs.declared.stores.Stores.{Stores}
use Rattle.blocks.specs.Stores.{dirty_in, sent_blocks, dropped_unless}
use Rattle.file.specs.FileStep.{FileAfter, leaving, unless_tested, closed_file, flushed_file, answered, waiter_granted, acted, file_step}
use Rattle.file.specs.FileStep.{granted, waiting, after_open, after_close, after_flush, after_answer}
use Rattle.file.proofs.AnswerStep.{waiter-there}
use Rattle.apart.specs.Agree.{StoresOn, StoresOff}
use Rattle.apart.proofs.FileStores.{stores_refl, stores_trans, dropped_both, dropped_off, dirty_same, any_same}
use Rattle.apart.proofs.FileStores.{sent-same, answered-both, answered_off, flushed_both, flushed_off}

-- what two steps leave that are alike on file f
pub record FileAlike (f : ℕ) (o p : FileAfter) : Type 0 where
  pub file : o.file ≡ p.file
  pub reply : o.reply ≡ p.reply
  pub calls : o.calls ≡ p.calls
  pub stores : StoresOn f o.stores p.stores

-- ---- choosing, and refusing

-- what both outcomes of a test leave
either_alike :
    {f : ℕ} (t : Bool) {o p o' p' : FileAfter}
    → (t ≡ true → FileAlike f o o')
    → (t ≡ false → FileAlike f p p')
    → FileAlike f (cond t o p) (cond t o' p')
either_alike true holds fails = holds refl
either_alike false holds fails = fails refl

either_off :
    (f : ℕ) {a : Stores} (t : Bool) (o p : FileAfter)
    → (t ≡ true → StoresOff f a o.stores)
    → (t ≡ false → StoresOff f a p.stores)
    → StoresOff f a (cond t o p).stores
either_off f true o p holds fails = holds refl
either_off f false o p holds fails = fails refl

-- by the number of the refusal, k, of which 0 is none
abbrev refusing : ℕ → SharedFile → Stores → FileAfter → FileAfter
refusing k x a after = cond (eqb k 0) after (leaving x a (Refused k))

-- a refused step leaves all as it came
refusing_alike :
    {f : ℕ} (k : ℕ) (x : SharedFile) {a b : Stores} {o p : FileAfter}
    → StoresOn f a b
    → (k ≡ 0 → FileAlike f o p)
    → FileAlike f (refusing k x a o) (refusing k x b p)
refusing_alike k x h done =
    either_alike (eqb k 0) (λ e. done (eqb-true k 0 e))
    (λ e. record { file = refl; reply = refl; calls = refl; stores = h })

refusing_off :
    (f k : ℕ) (x : SharedFile) {a : Stores} (o : FileAfter)
    → (k ≡ 0 → StoresOff f a o.stores)
    → StoresOff f a (refusing k x a o).stores
refusing_off f k x {a} o done =
    either_off f (eqb k 0) o (leaving x a (Refused k)) (λ e. done (eqb-true k 0 e)) (λ e. stores_refl)

-- ---- the file that a step names

-- what a step does on one file, it does on file f
abbrev Names : FileAct → ℕ → Type 0
Names (opens m i g) f = g ≡ f
Names (closes m i g) f = g ≡ f
Names (flushes i g b) f = g ≡ f
Names (answers i g) f = g ≡ f
Names nothing f = Unit {0}

-- the file of a class, by which two of them are told apart
abbrev file_in : Class → ℕ
file_in (OnFile f) = f
file_in (OnBlock i f) = f
file_in OnTable = 0
file_in OnAll = 0

names : (y : Step) (f : ℕ) → class_of y ≡ OnFile f → Names (file_act y) f
names (Open m i g) f e = ap file_in e
names (Close m i g) f e = ap file_in e
names (Read i g b) f e = tt
names (Write i g b v) f e = tt
names (Flush i g b) f e = ap file_in e
names (Answer i g) f e = ap file_in e
names Crash f e = tt
names (Report i) f e = tt
names End f e = tt
names (Restart i) f e = tt
names (Embargo i g) f e = tt
names (Lift i) f e = tt

-- ---- a grant

module _ (z : Sizes) (f : ℕ) (x : SharedFile) (i : ℕ) (m : Mode) (g : Grant) where
  -- whether the opener's copy is kept
  abbrev keeps : Bool
  keeps = keeps_blocks m g (side_of x.sides i)

  -- in both the same copy is kept, or dropped
  granted_alike :
      {a b : Stores} {r t : Reply}
      → StoresOn f a b
      → r ≡ t
      → FileAlike f (granted z f x a i m g r) (granted z f x b i m g t)
  granted_alike h same =
      record { file = refl; reply = same; calls = refl; stores = dropped_both z.blocks keeps i f h }

  -- the copy of a client is the file's own
  granted_off :
      (a : Stores) → Permitted z → i < z.clients → StoresOff f a (dropped_unless z.blocks keeps i f a)
  granted_off a most client = dropped_off z.blocks keeps f a most.blocks (client_fits most client)

-- ---- each kind of step

module _ (z : Sizes) (most : Permitted z) (embargoed recovering : Bool) (x : SharedFile) where
  -- what a step leaves of the file x and the stores a, and the number of its refusal
  abbrev left : Stores → FileAct → FileAfter
  left a w = acted z embargoed recovering x a w

  abbrev open_number : Mode → ℕ → ℕ → ℕ
  open_number m i f = first_of (open_tests z embargoed recovering x.entry (side_of x.sides i) m i f)

  abbrev close_number : Mode → ℕ → ℕ → ℕ
  close_number m i f = first_of (close_tests z embargoed recovering x.entry (side_of x.sides i) m i f)

  abbrev flush_number : Stores → ℕ → ℕ → ℕ → ℕ
  flush_number a i f c = first_of (flush_tests z embargoed recovering (dirty_in a i f c) i f c)

  abbrev answer_number : ℕ → ℕ → ℕ
  answer_number i f = first_of (answer_tests z embargoed recovering x.entry i f)

  -- the grant of an open, the callback of client i, and the file once i has answered it
  abbrev grant : Mode → ℕ → Grant
  grant m i = grant_of z.clients x.entry i m

  abbrev kind : ℕ → ℕ
  kind i = call_to z.clients x.entry i

  abbrev answered_file : ℕ → SharedFile
  answered_file i =
      record {
        entry = answered_entry x.entry i (kind i);
        sides = with_side x.sides i (answered_client (kind i) (side_of x.sides i));
      }

  -- the open that waits, and its grant then
  abbrev waiter : ℕ
  waiter = x.entry.waiter

  abbrev waiter_grant : ℕ → Grant
  waiter_grant i = grant_of z.clients (answered_file i).entry waiter x.entry.mode

  -- on two stores that agree on file f
  module _ (f : ℕ) {a b : Stores} (h : StoresOn f a b) where
    open_alike : (m : Mode) (i : ℕ) → FileAlike f (left a (opens m i f)) (left b (opens m i f))
    open_alike m i =
        refusing_alike (open_number m i f) x h
        (λ none.
        either_alike (eqb (calls_for z.clients x.entry i m) 0)
        (λ e. granted_alike z f x i m (grant m i) h refl)
        (λ e. record { file = refl; reply = refl; calls = refl; stores = h }))

    -- whether a block is dirty, both tell alike
    close-alike : (m : Mode) (i : ℕ) → FileAlike f (left a (closes m i f)) (left b (closes m i f))
    close-alike m i =
        refusing_alike (close_number m i f) x h
        (λ none.
        let (client, _, _) = named z i f (close_number m i f) _ refl none in
        record {
          file = ap (closed_file x m i) (any_same f h (client_fits most client) z.blocks most.blocks);
          reply = refl;
          calls = refl;
          stores = h;
        })

    -- a flush that names what is not there is refused for that, whatever is dirty
    flush-number : (i c : ℕ) → flush_number a i f c ≡ flush_number b i f c
    flush-number i c =
        split (leb z.clients i)
        (λ e. rw e)
        (λ client.
        split (leb z.blocks c)
        (λ e. rw e)
        (λ block.
        ap (λ t. first_of (flush_tests z embargoed recovering t i f c))
        (dirty_same f h (client_fits most (leb-false z.clients i client)) c
        (block_fits most (leb-false z.blocks c block)))))

    flush_alike : (i c : ℕ) → FileAlike f (left a (flushes i f c)) (left b (flushes i f c))
    flush_alike i c =
        let k = flush_number a i f c in
        subst (λ (j : ℕ). FileAlike f (left a (flushes i f c)) (refusing j x b (after_flush z x b i f c)))
        (flush-number i c)
        (refusing_alike k x h
        (λ none.
        let (client, _, block) = named_block z i f c k _ refl none in
        let flushed = flushed_both f h (client_fits most client) c (block_fits most block) in
        record {
          file = ap (flushed_file x i) (any_same f flushed (client_fits most client) z.blocks most.blocks);
          reply = refl;
          calls = refl;
          stores = flushed;
        }))

    -- both send the same blocks, and grant the same open
    answer_alike : (i : ℕ) → FileAlike f (left a (answers i f)) (left b (answers i f))
    answer_alike i =
        refusing_alike (answer_number i f) x h
        (λ none.
        let (client, _, _) = named z i f (answer_number i f) _ refl none in
        let told = sent-same f h (client_fits most client) z.blocks most.blocks (kind i) in
        let after = answered-both f h (client_fits most client) z.blocks most.blocks (kind i) in
        either_alike (eqb (calls_out z.clients (answered_file i).entry) 0)
        (λ e.
        granted_alike z f (answered_file i) waiter x.entry.mode (waiter_grant i) after
        (ap (λ n. AnsweredGrant n waiter (waiter_grant i)) told))
        (λ e. record { file = refl; reply = ap Answered told; calls = refl; stores = after }))

  -- the other files stay
  module _ (f : ℕ) (a : Stores) where
    open-off : (m : Mode) (i : ℕ) → StoresOff f a (left a (opens m i f)).stores
    open-off m i =
        refusing_off f (open_number m i f) x (after_open z x a m i f)
        (λ none.
        let (client, _, _) = named z i f (open_number m i f) _ refl none in
        either_off f (eqb (calls_for z.clients x.entry i m) 0)
        (granted z f x a i m (grant m i) (Granted (grant m i)))
        (waiting z x a i m)
        (λ e. granted_off z f x i m (grant m i) a most client)
        (λ e. stores_refl))

    close-off : (m : Mode) (i : ℕ) → StoresOff f a (left a (closes m i f)).stores
    close-off m i = refusing_off f (close_number m i f) x (after_close z x a m i f) (λ none. stores_refl)

    flush-off : (i c : ℕ) → StoresOff f a (left a (flushes i f c)).stores
    flush-off i c =
        refusing_off f (flush_number a i f c) x (after_flush z x a i f c)
        (λ none.
        let (client, _, block) = named_block z i f c (flush_number a i f c) _ refl none in
        flushed_off f a (client_fits most client) c (block_fits most block))

    -- the open that an answer grants is a client's
    answer_off : (i : ℕ) → StoresOff f a (left a (answers i f)).stores
    answer_off i =
        let o = answered z f x a i (kind i) in
        let sent = sent_blocks z.blocks (kind i) i f a in
        refusing_off f (answer_number i f) x (after_answer z x a i f)
        (λ none.
        let (client, _, _) = named z i f (answer_number i f) _ refl none in
        let there = waiter-there z embargoed recovering x a i f (answer_number i f) refl none in
        let after = answered_off f a (client_fits most client) z.blocks (kind i) most.blocks in
        either_off f (eqb (calls_out z.clients (answered_file i).entry) 0)
        (waiter_granted z f sent (answered_file i) o.stores)
        o
        (λ e.
        stores_trans after
        (granted_off z f (answered_file i) waiter x.entry.mode (waiter_grant i) o.stores most there))
        (λ e. after))

  -- ---- any of them, on the file that it names

  acted_alike : (a b : Stores) (w : FileAct) (f : ℕ) → Names w f → StoresOn f a b → FileAlike f (left a w) (left b w)
  acted_alike a b (opens m i g) f is =
      subst (λ (f : ℕ). StoresOn f a b → FileAlike f (left a (opens m i g)) (left b (opens m i g))) is
      (λ h. open_alike g h m i)
  acted_alike a b (closes m i g) f is =
      subst (λ (f : ℕ). StoresOn f a b → FileAlike f (left a (closes m i g)) (left b (closes m i g))) is
      (λ h. close-alike g h m i)
  acted_alike a b (flushes i g c) f is =
      subst (λ (f : ℕ). StoresOn f a b → FileAlike f (left a (flushes i g c)) (left b (flushes i g c))) is
      (λ h. flush_alike g h i c)
  acted_alike a b (answers i g) f is =
      subst (λ (f : ℕ). StoresOn f a b → FileAlike f (left a (answers i g)) (left b (answers i g))) is
      (λ h. answer_alike g h i)
  acted_alike a b nothing f is = λ h. record { file = refl; reply = refl; calls = refl; stores = h }

  acted_off : (a : Stores) (w : FileAct) (f : ℕ) → Names w f → StoresOff f a (left a w).stores
  acted_off a (opens m i g) f is = subst (λ (f : ℕ). StoresOff f a (left a (opens m i g)).stores) is (open-off g a m i)
  acted_off a (closes m i g) f is =
      subst (λ (f : ℕ). StoresOff f a (left a (closes m i g)).stores) is (close-off g a m i)
  acted_off a (flushes i g c) f is =
      subst (λ (f : ℕ). StoresOff f a (left a (flushes i g c)).stores) is (flush-off g a i c)
  acted_off a (answers i g) f is = subst (λ (f : ℕ). StoresOff f a (left a (answers i g)).stores) is (answer_off g a i)
  acted_off a nothing f is = stores_refl

-- ---- a step

-- the step looks at no others
pub file_local :
    (z : Sizes)
    → Permitted z
    → (embargoed recovering : Bool) (x : SharedFile) (a b : Stores) (y : Step) (f : ℕ)
    → class_of y ≡ OnFile f
    → StoresOn f a b
    → FileAlike f (file_step z embargoed recovering x a y) (file_step z embargoed recovering x b y)
unfolding file_step
file_local z most embargoed recovering x a b y f e h =
    acted_alike z most embargoed recovering x a b (file_act y) f (names y f e) h

-- and leaves them
pub file_off :
    (z : Sizes)
    → Permitted z
    → (embargoed recovering : Bool) (x : SharedFile) (a : Stores) (y : Step) (f : ℕ)
    → class_of y ≡ OnFile f
    → StoresOff f a (file_step z embargoed recovering x a y).stores
unfolding file_step
file_off z most embargoed recovering x a y f e =
    acted_off z most embargoed recovering x a (file_act y) f (names y f e)

-- ---- a step that is done

-- it has passed its tests
done_zero :
    (ts : List Test) (x : SharedFile) (a : Stores) (after : FileAfter)
    → is_refused (unless_tested ts x a after).reply ≡ false
    → first_of ts ≡ 0
done_zero ts x a after done =
    split (eqb (first_of ts) 0) (λ e. eqb-true (first_of ts) 0 e)
    (λ e.
    conflict (ap (λ (o : FileAfter). is_refused o.reply) (unless after (leaving x a (Refused (first_of ts))) e)) done)

-- and names what is there
pub flush_named :
    (z : Sizes)
    → Permitted z
    → (embargoed recovering : Bool) (x : SharedFile) (a : Stores) (i f b : ℕ)
    → is_refused (file_step z embargoed recovering x a (Flush i f b)).reply ≡ false
    → b < max_blocks
unfolding file_step
flush_named z most embargoed recovering x a i f b done =
    let tests = flush_tests z embargoed recovering (dirty_in a i f b) i f b in
    let (_, _, block) =
    named_block z i f b (first_of tests) _ refl (done_zero tests x a (after_flush z x a i f b) done) in
    block_fits most block

pub answer_named :
    (z : Sizes)
    → Permitted z
    → (embargoed recovering : Bool) (x : SharedFile) (a : Stores) (i f : ℕ)
    → is_refused (file_step z embargoed recovering x a (Answer i f)).reply ≡ false
    → i < max_clients
unfolding file_step
answer_named z most embargoed recovering x a i f done =
    let tests = answer_tests z embargoed recovering x.entry i f in
    let (client, _, _) = named z i f (first_of tests) _ refl (done_zero tests x a (after_answer z x a i f) done) in
    client_fits most client
