-- A read or a write goes by the blocks and the copies of its own file, and changes no others. Assumes nothing.
use Prim.Native.Nat.{ℕ, ◌<◌}
use mathlib.Core.Path.{◌≡◌, refl, ap, ◌∙◌, subst}
use mathlib.Core.Bool.{Bool, true, false, cond, not, ◌&&◌}
use mathlib.Core.List.{List, [], ◌∷◌}
use lib.Dec.{eqb, leb}
use lib.ListN.{set}
use borrow.Author.Tests.{eqb-true, leb-false}
use Rattle.sizes.specs.declared.sizes.Sizes.{Sizes}
use Rattle.sizes.specs.Sizes.{Permitted, place, cell, max_clients, max_blocks}
use Rattle.sizes.proofs.Choosing.{split, conflict, unless}
use Rattle.sizes.proofs.InForce.{client_fits, block_fits}
use Rattle.decision.specs.Lists.{first_of}
use Rattle.records.specs.declared.record.Mode.TheVariants.{Write as ForWrite}
use Rattle.protocol.specs.declared.client.ClientFile.{ClientFile}
use Rattle.protocol.specs.declared.reply.Reply.TheVariants.{Value, Refused}
use Rattle.protocol.specs.declared.step.Step.{Step}
use Rattle.protocol.specs.declared.step.Step.TheVariants.{Open, Close, Read, Write, Flush, Answer, Crash}
use Rattle.protocol.specs.declared.step.Step.TheVariants.{Report, End, Restart, Embargo, Lift}
use Rattle.protocol.specs.Step.{Class, OnFile, OnBlock, OnTable, OnAll, class_of}
use Rattle.protocol.specs.Step.{BlockAct, reads, writes, nothing, block_act}
use Rattle.protocol.specs.Needs.{needs_server}
use Rattle.protocol.specs.Refusal.{under_embargo, cut_off, not_open_in, not_open_at_all, no_place, read_tests, write_tests}
use Rattle.protocol.specs.Reply.{is_refused}
use Rattle.protocol.proofs.Tested.{named_block}
use Rattle.blocks.specs.declared.stores.Stores.{Stores}
use Rattle.blocks.specs.Stores.{block_in, copy_in, held_in, read_stores, written_stores}
use Rattle.access.specs.BlockStep.{BlockAfter, after_read, after_write, acted, block_step}
use Rattle.apart.specs.Agree.{AgreeOn, copies_of, StoresOn, StoresOff}
use Rattle.apart.proofs.Agreeing.{agree_refl, set_both, set_off, cell_in, place_in}

-- one reply, and stores that agree on file f
pub record BlockAlike (f : ℕ) (o p : BlockAfter) : Type 0 where
  pub reply : o.reply ≡ p.reply
  pub stores : StoresOn f o.stores p.stores

-- ---- a store that a test allows

module _ {A : Type 0} {R : ℕ → Bool} {d : A} where
  put : (t : Bool) {l m : List A} (k : ℕ) (v : A)
      → AgreeOn R d l m → AgreeOn R d (cond t (set l k v) l) (cond t (set m k v) m)
  put true k v h = set_both k v h
  put false k v h = h

  -- by the same test, of the same value, into both
  put_both :
      (t u : Bool) {l m : List A} (k : ℕ) (v w : A)
      → t ≡ u
      → v ≡ w
      → AgreeOn R d l m
      → AgreeOn R d (cond t (set l k v) l) (cond u (set m k w) m)
  put_both t u {l} {m} k v w same is h =
      subst (λ (x : Bool). AgreeOn R d (cond t (set l k v) l) (cond x (set m k w) m)) same
      (subst (λ (x : A). AgreeOn R d (cond t (set l k v) l) (cond t (set m k x) m)) is (put t k v h))

  -- where R fails
  put_off : (t : Bool) (l : List A) (k : ℕ) (v : A) → R k ≡ false → AgreeOn R d l (cond t (set l k v) l)
  put_off true l k v off = set_off l k v off
  put_off false l k v off = agree_refl

stores_refl : (f : ℕ) (a : Stores) → StoresOff f a a
stores_refl f a = record { blocks = agree_refl; copies = agree_refl; held = agree_refl; dirty = agree_refl }

-- ---- after the tests: block k of file f, at client i

module _ (own : ClientFile) (i f k : ℕ) (client : i < max_clients) (block : k < max_blocks) where
  abbrev caching : Bool
  caching = own.opens.caching

  -- whether a read fetches it
  abbrev fetches : Stores → Bool
  fetches a = caching && not (held_in a i f k)

  here : copies_of f (cell i f k) ≡ true
  here = cell_in f client block

  module _ (a b : Stores) (same : StoresOn f a b) where
    block_same : block_in a f k ≡ block_in b f k
    block_same = same.blocks.same (place f k) (place_in f block)

    copy_same : copy_in a i f k ≡ copy_in b i f k
    copy_same = same.copies.same (cell i f k) here

    held_same : held_in a i f k ≡ held_in b i f k
    held_same = same.held.same (cell i f k) here

    fetches-same : fetches a ≡ fetches b
    fetches-same = ap (λ (x : Bool). caching && not x) held_same

    read_alike : BlockAlike f (after_read own a i f k) (after_read own b i f k)
    read_alike =
        record {
          reply = λ j. Value (cond (caching && held_same j) (copy_same j) (block_same j));
          stores =
              record {
                blocks = same.blocks;
                copies =
                    put_both (fetches a) (fetches b) (cell i f k) (block_in a f k) (block_in b f k) fetches-same
                    block_same
                    same.copies;
                held = put_both (fetches a) (fetches b) (cell i f k) true true fetches-same refl same.held;
                dirty = same.dirty;
              };
        }

    written : (t : Bool) (v : ℕ) → StoresOn f (written_stores t i f k v a) (written_stores t i f k v b)
    written true v =
        record {
          blocks = same.blocks;
          copies = set_both (cell i f k) v same.copies;
          held = set_both (cell i f k) true same.held;
          dirty = set_both (cell i f k) true same.dirty;
        }
    written false v =
        record {
          blocks = set_both (place f k) v same.blocks;
          copies = same.copies;
          held = same.held;
          dirty = same.dirty;
        }

    write_alike : (v : ℕ) → BlockAlike f (after_write own a i f k v) (after_write own b i f k v)
    write_alike v = record { reply = refl; stores = written caching v }

  module _ (a : Stores) where
    read_off : StoresOff f a (read_stores caching i f k a)
    read_off =
        record {
          blocks = agree_refl;
          copies = put_off (fetches a) a.copies (cell i f k) (block_in a f k) (ap not here);
          held = put_off (fetches a) a.held (cell i f k) true (ap not here);
          dirty = agree_refl;
        }

    written-off : (t : Bool) (v : ℕ) → StoresOff f a (written_stores t i f k v a)
    written-off true v =
        record {
          blocks = agree_refl;
          copies = set_off a.copies (cell i f k) v (ap not here);
          held = set_off a.held (cell i f k) true (ap not here);
          dirty = set_off a.dirty (cell i f k) true (ap not here);
        }
    written-off false v =
        record {
          blocks = set_off a.blocks (place f k) v (ap not (place_in f block));
          copies = agree_refl;
          held = agree_refl;
          dirty = agree_refl;
        }

    write-off : (v : ℕ) → StoresOff f a (written_stores caching i f k v a)
    write-off v = written-off caching v

-- ---- the tests: n is the number of the first that holds

abbrev refused : Stores → ℕ → BlockAfter
refused a n = record { stores = a; reply = Refused n }

abbrev left : ℕ → Stores → BlockAfter → BlockAfter
left n a after = cond (eqb n 0) after (refused a n)

module _ (f n : ℕ) (a : Stores) (o : BlockAfter) where
  chosen :
      (t : Bool) {b : Stores} {p : BlockAfter}
      → StoresOn f a b
      → (t ≡ true → BlockAlike f o p)
      → BlockAlike f (cond t o (refused a n)) (cond t p (refused b n))
  chosen true same done = done refl
  chosen false same done = record { reply = refl; stores = same }

  left_alike :
      (m : ℕ) {b : Stores} {p : BlockAfter}
      → n ≡ m
      → StoresOn f a b
      → (n ≡ 0 → BlockAlike f o p)
      → BlockAlike f (left n a o) (left m b p)
  left_alike m {b} {p} e same done =
      subst (λ (x : ℕ). BlockAlike f (left n a o) (left x b p)) e
      (chosen (eqb n 0) same (λ none. done (eqb-true n 0 none)))

  chosen_off :
      (t : Bool) → (t ≡ true → StoresOff f a o.stores) → StoresOff f a (cond t o (refused a n)).stores
  chosen_off true done = done refl
  chosen_off false done = stores_refl f a

  left_off : (n ≡ 0 → StoresOff f a o.stores) → StoresOff f a (left n a o).stores
  left_off done = chosen_off (eqb n 0) (λ none. done (eqb-true n 0 none))

-- where a client or a block is not there, the later tests are not looked at
later_same :
    (client file block : Bool) (m n : ℕ)
    → (client ≡ false → block ≡ false → m ≡ n)
    → cond client 2 (cond file 3 (cond block 4 m)) ≡ cond client 2 (cond file 3 (cond block 4 n))
later_same true file block m n same = refl
later_same false true block m n same = refl
later_same false false true m n same = refl
later_same false false false m n same = same refl refl

-- ---- a step

-- the file of which it reads or writes a block, by what it does and by its class
abbrev file_in : BlockAct → ℕ
file_in (reads i f k) = f
file_in (writes i f k v) = f
file_in nothing = 0

abbrev block_file : Class → ℕ
block_file (OnFile f) = 0
block_file (OnBlock i f) = f
block_file OnTable = 0
block_file OnAll = 0

file_is : (y : Step) → file_in (block_act y) ≡ block_file (class_of y)
file_is (Open m i f) = refl
file_is (Close m i f) = refl
file_is (Read i f k) = refl
file_is (Write i f k v) = refl
file_is (Flush i f k) = refl
file_is (Answer i f) = refl
file_is Crash = refl
file_is (Report i) = refl
file_is End = refl
file_is (Restart i) = refl
file_is (Embargo i f) = refl
file_is (Lift i) = refl

module _
    (z : Sizes) (most : Permitted z) (embargoed recovering reported : Bool) (own : ClientFile) (takes full : Bool) where
  -- the tests of a read, past those of the client, the file and the block
  abbrev later : ℕ → ℕ → ℕ → Bool → ℕ
  later i f k held =
      first_of
      (under_embargo embargoed (needs_server (Read i f k) own held false)
      ∷ cut_off recovering reported (needs_server (Read i f k) own held false)
      ∷ not_open_at_all own
      ∷ [])

  abbrev read_number : ℕ → ℕ → ℕ → Stores → ℕ
  read_number i f k a = first_of (read_tests z embargoed recovering reported own (held_in a i f k) i f k)

  abbrev write_number : ℕ → ℕ → ℕ → ℕ → ℕ
  write_number i f k v = first_of (write_tests z embargoed recovering reported own takes full i f k v)

  number_same : (i f k : ℕ) (a b : Stores) → StoresOn f a b → read_number i f k a ≡ read_number i f k b
  number_same i f k a b same =
      later_same (leb z.clients i) (leb z.files f) (leb z.blocks k)
      (later i f k (held_in a i f k))
      (later i f k (held_in b i f k))
      (λ client block.
      let below = client_fits most (leb-false z.clients i client) in
      let inside = block_fits most (leb-false z.blocks k block) in
      ap (later i f k) (held_same own i f k below inside a b same))

  -- a read or a write that passes them names a client and a block that are there
  read_named : (i f k : ℕ) (a : Stores) → read_number i f k a ≡ 0 → (i < max_clients) × (k < max_blocks)
  read_named i f k a none =
      let (client, _, block) = named_block z i f k (read_number i f k a) (later i f k (held_in a i f k)) refl none in
      (client_fits most client, block_fits most block)

  write_named : (i f k v : ℕ) → write_number i f k v ≡ 0 → (i < max_clients) × (k < max_blocks)
  write_named i f k v none =
      let (client, _, block) = named_block z i f k (write_number i f k v) _ refl none in
      (client_fits most client, block_fits most block)

  acted_local :
      (a b : Stores) (x : BlockAct)
      → StoresOn (file_in x) a b
      → BlockAlike (file_in x)
      (acted z embargoed recovering reported own takes full a x)
      (acted z embargoed recovering reported own takes full b x)
  acted_local a b (reads i f k) same =
      left_alike f (read_number i f k a) a (after_read own a i f k) (read_number i f k b) (number_same i f k a b same) same
      (λ none.
      let (client, block) = read_named i f k a none in
      read_alike own i f k client block a b same)
  acted_local a b (writes i f k v) same =
      left_alike f (write_number i f k v) a (after_write own a i f k v) (write_number i f k v) refl same
      (λ none.
      let (client, block) = write_named i f k v none in
      write_alike own i f k client block a b same v)
  acted_local a b nothing same = record { reply = refl; stores = same }

  acted_off : (a : Stores) (x : BlockAct) → StoresOff (file_in x) a (acted z embargoed recovering reported own takes full a x).stores
  acted_off a (reads i f k) =
      left_off f (read_number i f k a) a (after_read own a i f k)
      (λ none.
      let (client, block) = read_named i f k a none in
      read_off own i f k client block a)
  acted_off a (writes i f k v) =
      left_off f (write_number i f k v) a (after_write own a i f k v)
      (λ none.
      let (client, block) = write_named i f k v none in
      write-off own i f k client block a v)
  acted_off a nothing = stores_refl 0 a

-- from stores that agree on its file it gets the same, and leaves stores that agree there
pub block_local :
    (z : Sizes)
    → Permitted z
    → (embargoed recovering reported : Bool) (own : ClientFile) (takes full : Bool) (a b : Stores) (y : Step) (i f : ℕ)
    → class_of y ≡ OnBlock i f
    → StoresOn f a b
    → BlockAlike f
    (block_step z embargoed recovering reported own takes full a y)
    (block_step z embargoed recovering reported own takes full b y)
unfolding block_step
block_local z most embargoed recovering reported own takes full a b y i f is same =
    subst
    (λ (g : ℕ).
    StoresOn g a b
    → BlockAlike g
    (acted z embargoed recovering reported own takes full a (block_act y))
    (acted z embargoed recovering reported own takes full b (block_act y)))
    (file_is y ∙ ap block_file is)
    (acted_local z most embargoed recovering reported own takes full a b (block_act y))
    same

-- and it leaves all other files as they were
pub block_off :
    (z : Sizes)
    → Permitted z
    → (embargoed recovering reported : Bool) (own : ClientFile) (takes full : Bool) (a : Stores) (y : Step) (i f : ℕ)
    → class_of y ≡ OnBlock i f
    → StoresOff f a (block_step z embargoed recovering reported own takes full a y).stores
unfolding block_step
block_off z most embargoed recovering reported own takes full a y i f is =
    subst (λ (g : ℕ). StoresOff g a (acted z embargoed recovering reported own takes full a (block_act y)).stores)
    (file_is y ∙ ap block_file is)
    (acted_off z most embargoed recovering reported own takes full a (block_act y))

-- a write that names no client or no block is refused whether it takes a place or not
pub takes_same :
    (z : Sizes)
    → Permitted z
    → (embargoed recovering reported : Bool) (own : ClientFile) (takes takes' full : Bool) (a : Stores) (i f k v : ℕ)
    → (i < max_clients → k < max_blocks → takes ≡ takes')
    → block_step z embargoed recovering reported own takes full a (Write i f k v)
    ≡ block_step z embargoed recovering reported own takes' full a (Write i f k v)
unfolding block_step
takes_same z most embargoed recovering reported own takes takes' full a i f k v same =
    ap (λ (n : ℕ). cond (eqb n 0) (after_write own a i f k v) (record { stores = a; reply = Refused n }))
    (later_same (leb z.clients i) (leb z.files f) (leb z.blocks k) (rest takes) (rest takes')
    (λ client block.
    ap rest
    (same (client_fits most (leb-false z.clients i client)) (block_fits most (leb-false z.blocks k block)))))
  where
    rest : Bool → ℕ
    rest t =
        first_of
        (under_embargo embargoed (needs_server (Write i f k v) own false t)
        ∷ cut_off recovering reported (needs_server (Write i f k v) own false t)
        ∷ not_open_in ForWrite own
        ∷ no_place t full
        ∷ [])

-- a write that is done names a client and a block that are there
pub written_named :
    (z : Sizes)
    → Permitted z
    → (embargoed recovering reported : Bool) (own : ClientFile) (takes full : Bool) (a : Stores) (i f k v : ℕ)
    → is_refused (block_step z embargoed recovering reported own takes full a (Write i f k v)).reply ≡ false
    → (i < max_clients) × (k < max_blocks)
unfolding block_step
written_named z most embargoed recovering reported own takes full a i f k v done =
    let n = write_number z most embargoed recovering reported own takes full i f k v in
    write_named z most embargoed recovering reported own takes full i f k v
    (split (eqb n 0) (λ e. eqb-true n 0 e)
    (λ e. conflict (ap (λ (o : BlockAfter). is_refused o.reply) (unless (after_write own a i f k v) (record { stores = a; reply = Refused n }) e)) done))
