-- Reads and writes, as the step's definition has them. A place is wrapped; where the block is there it is the place.
-- Assumes nothing.
use Prim.Native.Nat.{ℕ, ◌%◌, ◌<◌}
use mathlib.Core.Path.{◌≡◌, refl, sym, ap, ◌∙◌, subst⁻¹}
use mathlib.Core.Bool.{Bool, true, false, cond, not, ◌&&◌, ◌||◌}
use mathlib.Core.List.{List}
use native.Mathlib.Nat.{mod-eq_of_lt}
use native.Mathlib.Omega.{arith}
use lib.Dec.{leb}
use lib.ListN.{get_or, set}
use lib.Seq.{set-get_or}
use borrow.Author.Tests.{leb-false}
use Rattle.std.specs.Prelude.{⊤, Ok, Err}
use Rattle.std.specs.declared.result.Result.{Result}
use Rattle.sizes.proofs.Choosing.{split}
use Rattle.sizes.specs.declared.sizes.Sizes.{Sizes}
use Rattle.sizes.specs.Sizes.{max_clients, max_files, max_blocks, Permitted, place, cell}
use Rattle.decision.specs.Lists.{first_of}
use Rattle.protocol.specs.declared.client.Accessed.{Accessed}
use Rattle.protocol.specs.declared.client.BlockCopy.{BlockCopy}
use Rattle.protocol.specs.declared.client.ClientFile.{ClientFile}
use Rattle.protocol.specs.declared.refusal.Refusal.{Refusal}
use Rattle.protocol.specs.declared.reply.Reply.{Reply}
use Rattle.protocol.specs.declared.reply.Reply.TheVariants.{Refused}
use Rattle.protocol.specs.declared.step.Step.TheVariants.{Read, Write}
use Rattle.protocol.specs.Access.{client_read, client_written}
use Rattle.protocol.specs.Refusal.{Test, read_tests, write_tests}
use Rattle.protocol.specs.Refused.{refusal_in, refused_with}
use Rattle.protocol.proofs.Refused.{refused_by, not_refused_by}
use Rattle.blocks.specs.declared.stores.Stores.{Stores}
use Rattle.blocks.specs.Stores.{lent, held_in, block_in}
use Rattle.access.specs.BlockStep.{BlockAfter, unless_tested, after_read, after_write, block_step, Leaves}

-- what a step leaves, said in another way
leaves_as :
    (r : Reply) (s : Stores) (o o' : BlockAfter)
    → o ≡ o'
    → Leaves o' r s
    → Leaves o r s
leaves_as r s o o' e l = subst⁻¹ (λ (x : BlockAfter). Leaves x r s) e l

-- a refused step has left the lent arrays as they came
pub leaves_refused :
    (ts : List Test) (after : BlockAfter) {s : Stores} {o : BlockAfter} {r : Result ⊤ Refusal} {refusal : Refusal} {reply : Reply}
    → o ≡ unless_tested ts s after
    → refusal_in r ≡ first_of ts
    → r ≡ Err refusal
    → reply ≡ refused_with refusal
    → Leaves o reply s
leaves_refused ts after {s} {o} {r} {refusal} {reply} step tests is told =
    leaves_as reply s o (record { stores = s; reply = refused_with refusal })
    (step ∙ refused_by ts (λ n. record { stores = s; reply = Refused n }) after tests is)
    (record { reply_after = told; stores_after = refl })

-- another has left what the read or the write leaves
pub leaves_done :
    (ts : List Test) (a : Stores) {after o : BlockAfter} {r : Result ⊤ Refusal} {u : ⊤} {reply : Reply} {s : Stores}
    → o ≡ unless_tested ts a after
    → refusal_in r ≡ first_of ts
    → r ≡ Ok u
    → Leaves after reply s
    → Leaves o reply s
leaves_done ts a {after} {o} {r} {u} {reply} {s} step tests done left =
    leaves_as reply s o after
    (step ∙ not_refused_by ts (λ n. record { stores = a; reply = Refused n }) after tests done)
    left

module _
    (z : Sizes) (embargoed recovering reported : Bool) (own : ClientFile) (takes full : Bool) (a : Stores) (i f b : ℕ) where
  pub read_step :
      block_step z embargoed recovering reported own takes full a (Read i f b)
      ≡ unless_tested (read_tests z embargoed recovering reported own (held_in a i f b) i f b) a (after_read own a i f b)
  unfolding block_step
  read_step = refl

  pub write_step :
      (v : ℕ)
      → block_step z embargoed recovering reported own takes full a (Write i f b v)
      ≡ unless_tested (write_tests z embargoed recovering reported own takes full i f b v) a (after_write own a i f b v)
  unfolding block_step
  write_step v = refl

-- A block that the sizes do not have is refused, whatever stands at its wrapped place; one that they have stands there.
pub read_tests_lem :
    (z : Sizes) (embargoed recovering reported : Bool) (own : ClientFile) (held : List Bool) (i f b : ℕ)
    → Permitted z
    → first_of
    (read_tests z embargoed recovering reported own (get_or held (cell (i % max_clients) (f % max_files) (b % max_blocks)) false) i f b)
    ≡ first_of (read_tests z embargoed recovering reported own (get_or held (cell i f b) false) i f b)
read_tests_lem z embargoed recovering reported own held i f b p =
    split (leb z.clients i) (λ e. rw e)
    (λ client.
    split (leb z.files f) (λ e. rw (client, e))
    (λ file.
    split (leb z.blocks b) (λ e. rw (client, file, e))
    (λ block.
    let hi : i < max_clients = omega (arith, leb-false z.clients i client, p.clients) in
    let hf : f < max_files = omega (arith, leb-false z.files f file, p.files) in
    let hb : b < max_blocks = omega (arith, leb-false z.blocks b block, p.blocks) in
    rw (mod-eq_of_lt hi, mod-eq_of_lt hf, mod-eq_of_lt hb))))

-- ---- storing what a step leaves of one place

copy_read :
    (c h : Bool) (l : List ℕ) (k v : ℕ)
    → set l k (cond c (cond (c && h) (get_or l k 0) v) (get_or l k 0)) ≡ cond (c && not h) (set l k v) l
copy_read true true l k v = set-get_or l k 0
copy_read true false l k v = refl
copy_read false h l k v = set-get_or l k 0

held_by : (h : Bool) (l : List Bool) (k : ℕ) → get_or l k false ≡ h → set l k true ≡ cond (not h) (set l k true) l
held_by true l k e = ap (set l k) (sym e) ∙ set-get_or l k false
held_by false l k e = refl

held_read :
    (c : Bool) (l : List Bool) (k : ℕ)
    → set l k (c || get_or l k false) ≡ cond (c && not (get_or l k false)) (set l k true) l
held_read true l k = held_by (get_or l k false) l k refl
held_read false l k = set-get_or l k false

value_written : (c : Bool) (l : List ℕ) (k v : ℕ) → set l k (cond c v (get_or l k 0)) ≡ cond c (set l k v) l
value_written true l k v = refl
value_written false l k v = set-get_or l k 0

block_written : (c : Bool) (l : List ℕ) (k v : ℕ) → set l k (cond c (get_or l k 0) v) ≡ cond c l (set l k v)
block_written true l k v = set-get_or l k 0
block_written false l k v = refl

flag_written : (c : Bool) (l : List Bool) (k : ℕ) → set l k (c || get_or l k false) ≡ cond c (set l k true) l
flag_written true l k = refl
flag_written false l k = set-get_or l k false

-- ---- what a read and a write leave, from what the client's own leaves of its copy and of the block

module _ (own : ClientFile) (i f b : ℕ) (a : Stores) where
  -- the client's copy at a place
  abbrev copy_at : ℕ → BlockCopy
  copy_at at = record { value = get_or a.copies at 0; held = get_or a.held at false; dirty = get_or a.dirty at false }

  module _ (after : Accessed) (at to : ℕ) (is_at : at ≡ cell i f b) (is-to : to ≡ place f b) where
    pub read-leaves :
        after ≡ client_read own (copy_at at) (get_or a.blocks to 0)
        → Leaves (after_read own a i f b) after.reply
        (lent a.blocks (set a.copies at after.copy.value) (set a.held at after.copy.held) a.dirty)
    read-leaves is =
        let c : Bool = own.opens.caching in
        rw (is, is_at, is-to)
        (record {
          reply_after = refl;
          stores_after = λ k.
              lent a.blocks (copy_read c (held_in a i f b) a.copies (cell i f b) (block_in a f b) k)
              (held_read c a.held (cell i f b) k) a.dirty;
        })

    pub write-leaves :
        (v : ℕ)
        → after ≡ client_written own (copy_at at) (get_or a.blocks to 0) v
        → Leaves (after_write own a i f b v) after.reply
        (lent (set a.blocks to after.block) (set a.copies at after.copy.value) (set a.held at after.copy.held)
        (set a.dirty at after.copy.dirty))
    write-leaves v is =
        let c : Bool = own.opens.caching in
        rw (is, is_at, is-to)
        (record {
          reply_after = refl;
          stores_after = λ k.
              lent (block_written c a.blocks (place f b) v k) (value_written c a.copies (cell i f b) v k)
              (flag_written c a.held (cell i f b) k) (flag_written c a.dirty (cell i f b) k);
        })
