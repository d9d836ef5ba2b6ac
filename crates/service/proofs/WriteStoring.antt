-- A write, with the store: one that takes a place is found by the flags, at wrapped numbers. Assumes nothing.
use Prim.Native.Nat.{ℕ, ◌+◌, ◌%◌, ◌<◌, ◌≤◌}
use mathlib.Core.Path.{◌≡◌, refl, sym, ap, ap₂, ◌∙◌, subst, subst⁻¹}
use mathlib.Core.Bool.{Bool, true, false, cond, not, ◌&&◌, ◌||◌}
use mathlib.Core.List.{List}
use native.Mathlib.Nat.{add-zero, mod-eq_of_lt}
use native.Mathlib.Omega.{arith}
use lib.Dec.{eqb, leb, ltb}
use lib.ListN.{length, get_or, set, length-set}
use lib.Seq.{get_or-take, get_or-drop, get_or-set_same, set-get_or, set_out}
use borrow.Author.Tests.{eqb-true, eqb-false, ne_eqb, leb-true, leb-false, ltb-true, ltb-false}
use Rattle.sizes.specs.declared.sizes.Sizes.{Sizes}
use Rattle.sizes.specs.Sizes.{max_clients, max_files, max_blocks, in_force, Permitted, place, cell, at_most}
use Rattle.sizes.proofs.Choosing.{split, conflict, when, unless}
use Rattle.protocol.specs.declared.client.ClientFile.{ClientFile}
use Rattle.protocol.specs.declared.client.Sides.{Sides}
use Rattle.protocol.specs.declared.reply.Reply.{Reply}
use Rattle.protocol.specs.declared.reply.Reply.TheVariants.{Refused}
use Rattle.protocol.specs.declared.step.Step.TheVariants.{Write}
use Rattle.protocol.specs.Client.{side_of, write_needs_server}
use Rattle.protocol.specs.Reply.{is_refused}
use Rattle.blocks.specs.declared.stores.Stores.{Stores}
use Rattle.access.specs.BlockStep.{after_write, block_step}
use Rattle.table.specs.TableStep.{no_sides}
use Rattle.words.specs.Rows.{table_rows, table_words, word_at, sides_held}
use Rattle.words.specs.Words.{side_held}
use Rattle.words.proofs.Changing.{side_held_lem}
use Rattle.words.proofs.Listing.{get_d_listed}
use Rattle.service.specs.declared.service.Service.{Service}
use Rattle.service.specs.Contents.{sizes_of, client_at, stores_of}
use Rattle.service.specs.Counted.{known_held, takes_held}
use Rattle.service.specs.Lent.{state_flags, lent_flags, recovering_held, used_held, free_held, service_held}
use Rattle.service.specs.Served.{Moves, Serves}
use Rattle.service.specs.Space.{dirty_among, is_counted, counted_on, is_within, takes_place, is_full, recounted}
use Rattle.service.specs.Step.{block_outcome, moved}
use Rattle.service.proofs.Counting.{any_cong, count_cong, count_one, recounted_near}
use Rattle.service.proofs.LentFlags.{flag_embargoed, length_used, state_kept, used_set}
use Rattle.service.proofs.Storing.{Keeping, all_kept, word_kept, free_set, Alike, serves-refused, knows, recounted_same}
use Rattle.service.proofs.Storing.{LeavesFree, did}
use Rattle.service.proofs.FileStoring.{spends, or_left, or_right, dirty_beside, dirty_unknown}
use Rattle.service.proofs.FileStoring.{dirty_more, dirty_there, used_beside, used_there, known_running}

-- ---- what it finds of the store

-- nothing is free where the number or the size is 0
full_alike : (store free : ℕ) → eqb (at_most store free) 0 ≡ (eqb free 0 || eqb store 0)
full_alike store free =
    split (leb free store)
    (λ e.
    split (eqb free 0)
    (λ none. rw (e, none))
    (λ some.
    let off : store ≡ 0 → ⊥ = λ q. eqb-false free 0 some (omega (arith, leb-true free store e, q)) in
    rw (e, some, ne_eqb store 0 off)))
    (λ e.
    let off : free ≡ 0 → ⊥ = λ q. omega (arith, leb-false free store e, q) in
    rw (e, ne_eqb free 0 off))

-- the first tests that hold give the number, whatever comes after them
early :
    (client file block : Bool) (rest rest' : ℕ)
    → (client || file || block) ≡ true
    → ◌≡◌ {A = ℕ} (cond client 2 (cond file 3 (cond block 4 rest))) (cond client 2 (cond file 3 (cond block 4 rest')))
early true file block rest rest' e = refl
early false true block rest rest' e = refl
early false false true rest rest' e = refl
early false false false rest rest' e = conflict e refl

none_of : (a b c : Bool) → (a || b || c) ≡ false → (a ≡ false) × (b ≡ false) × (c ≡ false)
none_of true b c e = conflict refl e
none_of false true c e = conflict refl e
none_of false false true e = conflict refl e
none_of false false false e = (refl, refl, refl)

-- a write that names what is not there is refused by it
write_early :
    (takes full takes' full' : Bool) (s : Service) (i f b v : ℕ)
    → (leb (sizes_of s).clients i || leb (sizes_of s).files f || leb (sizes_of s).blocks b) ≡ true
    → moved takes full s (Write i f b v) ≡ moved takes' full' s (Write i f b v)
unfolding moved block_step
write_early takes full takes' full' s i f b v e =
    ap
    (λ (k : ℕ).
    block_outcome s
    (cond (eqb k 0) (after_write (client_at s i f) (stores_of s) i f b v) (record { stores = stores_of s; reply = Refused k })))
    (early (leb (sizes_of s).clients i) (leb (sizes_of s).files f) (leb (sizes_of s).blocks b) _ _ e)

-- one that takes no place does not ask whether one is free
write_full :
    (takes full : Bool) (s : Service) (i f b v : ℕ)
    → moved takes full s (Write i f b v) ≡ moved takes (takes && full) s (Write i f b v)
unfolding moved block_step
write_full true full s i f b v = refl
write_full false full s i f b v = refl

and_true : (x : Bool) → (x && true) ≡ x
and_true true = refl
and_true false = refl

takes_held_lem :
    (given : Sizes) (n i f b v : ℕ) (t : List ℕ) (flags : List Bool) (a : Stores)
    → n ≡ (in_force given).clients
    → n ≤ max_clients
    → takes_place (service_held given t flags a) (Write i f b v) ≡ takes_held n i f b flags a.dirty
takes_held_lem given n i f b v t flags a is few =
    let used : Bool = get_or (used_held flags) (place f b) false in
    ap (λ (d : Bool). not (used || (not used && d) || get_or a.dirty (cell i f b) false))
    (ap (λ (k : ℕ). dirty_among k (is_within (service_held given t flags a)) a.dirty f b) (sym is)
    ∙ any_cong n (λ j. is_within (service_held given t flags a) j && get_or a.dirty (cell j f b) false)
    (λ j. known_held false flags j && get_or a.dirty (cell j f b) false)
    (λ j h.
    ap (λ (w : Bool). w && get_or a.dirty (cell j f b) false)
    (ap not (flag_embargoed flags j (omega (arith, h, few))) ∙ sym (and_true (not (get_or flags (max_clients + 1 + j) false))))))

-- ---- what it counts

-- what taking a place says of the block, and what not taking one says
takes_so :
    (u d o : Bool) → not (u || (not u && d) || o) ≡ true → (u ≡ false) × (d ≡ false) × (o ≡ false)
takes_so true d o e = conflict e refl
takes_so false true o e = conflict e refl
takes_so false false true e = conflict e refl
takes_so false false false e = (refl, refl, refl)

takes_not : (u d o : Bool) → not (u || (not u && d) || o) ≡ false → u ≡ false → o ≡ false → d ≡ true
takes_not u true o e p q = refl
takes_not true false o e p q = conflict refl p
takes_not false false true e p q = conflict refl q
takes_not false false false e p q = conflict refl e

-- passed tests of a write that needs the server, and of one that does not
needs_passed : (needs embargoed : Bool) → needs ≡ true → (needs && embargoed) ≡ false → embargoed ≡ false
needs_passed needs embargoed n e = ap (λ (b : Bool). b && embargoed) (sym n) ∙ e

runs_passed : (reported needs recovering : Bool) → needs ≡ true → ((reported || needs) && recovering) ≡ false → recovering ≡ false
runs_passed reported needs recovering n e =
    ap (λ (b : Bool). b && recovering) (sym (or_right reported needs n)) ∙ e

unheard_passed : (reported needs recovering : Bool) → recovering ≡ true → ((reported || needs) && recovering) ≡ false → reported ≡ false
unheard_passed true needs true r e = conflict refl e
unheard_passed false needs recovering r e = refl
unheard_passed true needs false r e = conflict r refl

uncached_needs : (own : ClientFile) → own.opens.caching ≡ false → write_needs_server own ≡ true
uncached_needs own e = ap (λ (c : Bool). not (ltb 0 own.opens.writers && c)) e ∙ ap not (no (ltb 0 own.opens.writers))
  where
    no : (x : Bool) → (x && false) ≡ false
    no true = refl
    no false = refl

module _
    (z : Sizes)
    (p : Permitted z)
    (i f b : ℕ)
    (flags dirty : List Bool)
    (size : length flags ≡ lent_flags)
    (client : i < z.clients)
    (file : f < z.files)
    (block : b < z.blocks) where
  abbrev counts : List Bool → List Bool → ℕ → Bool
  counts used l c = is_counted z.clients (knows flags) used l f c

  fits : (f < max_files) × (b < max_blocks)
  fits = (omega (arith, file, p.files), omega (arith, block, p.blocks))

  -- the block stays counted, or stays so not; the others are as they were
  module _ (used' dirty' : List Bool)
      (beside : (c : ℕ) → c < z.blocks → (c ≡ b → ⊥) → counts used' dirty' c ≡ counts (used_held flags) dirty c) where
    same_count :
        counts used' dirty' b ≡ counts (used_held flags) dirty b
        → counted_on z (knows flags) used' dirty' f ≡ counted_on z (knows flags) (used_held flags) dirty f
    same_count here =
        count_cong z.blocks (counts used' dirty') (counts (used_held flags) dirty)
        (λ c h.
        split (eqb c b)
        (λ q.
        subst⁻¹ (λ (k : ℕ). counts used' dirty' k ≡ counts (used_held flags) dirty k) (eqb-true c b q) here)
        (λ q. beside c h (eqb-false c b q)))

    one_more :
        counts (used_held flags) dirty b ≡ false
        → counts used' dirty' b ≡ true
        → counted_on z (knows flags) used' dirty' f ≡ counted_on z (knows flags) (used_held flags) dirty f + 1
    one_more off on =
        count_one z.blocks (counts (used_held flags) dirty) (counts used' dirty') b block off on
        (λ c h q. sym (beside c h (eqb-false c b q)))

  -- at the server
  used_others : (c : ℕ) → c < z.blocks → (c ≡ b → ⊥) → counts (set (used_held flags) (place f b) true) dirty c ≡ counts (used_held flags) dirty c
  used_others c h off =
      ap (λ (u : Bool). u || dirty_among z.clients (knows flags) dirty f c) (used_beside (used_held flags) f b c true off)

  used_now : counts (set (used_held flags) (place f b) true) dirty b ≡ true
  used_now =
      or_left (get_or (set (used_held flags) (place f b) true) (place f b) false)
      (dirty_among z.clients (knows flags) dirty f b)
      (used_there (used_held flags) f b (length_used flags size) fits.0 fits.1)

  -- in the copy
  dirty_others :
      (c : ℕ) → c < z.blocks → (c ≡ b → ⊥) → counts (used_held flags) (set dirty (cell i f b) true) c ≡ counts (used_held flags) dirty c
  dirty_others c h off =
      ap (λ (d : Bool). get_or (used_held flags) (place f c) false || d)
      (dirty_beside z.clients (knows flags) dirty i f b true c (omega (arith, h, p.blocks)) fits.1 off)

  dirty_now :
      cell i f b < length dirty → knows flags i ≡ true → counts (used_held flags) (set dirty (cell i f b) true) b ≡ true
  dirty_now inside known =
      or_right (get_or (used_held flags) (place f b) false)
      (dirty_among z.clients (knows flags) (set dirty (cell i f b) true) f b)
      (dirty_there z.clients (knows flags) (set dirty (cell i f b) true) i f b client known
      (get_or-set_same dirty (cell i f b) true false inside))

  -- where it takes a place, the block was not counted
  module _ (runs : recovering_held flags ≡ false) where
    known_alike : dirty_among z.clients (knows flags) dirty f b ≡ dirty_among z.clients (known_held false flags) dirty f b
    known_alike = ap (λ (r : Bool). dirty_among z.clients (known_held r flags) dirty f b) runs

    not-counted : takes_held z.clients i f b flags dirty ≡ true → counts (used_held flags) dirty b ≡ false
    not-counted e =
        let (u, d, o) =
        takes_so (get_or (used_held flags) (place f b) false) (dirty_among z.clients (known_held false flags) dirty f b)
        (get_or dirty (cell i f b) false) e in
        ap₂ (λ (x y : Bool). x || y) u (known_alike ∙ d)

    -- and where it takes none, it was, or is dirty there
    was-counted :
        takes_held z.clients i f b flags dirty ≡ false
        → get_or dirty (cell i f b) false ≡ false
        → counts (used_held flags) dirty b ≡ true
    was-counted e o =
        split (get_or (used_held flags) (place f b) false)
        (λ u. or_left (get_or (used_held flags) (place f b) false) (dirty_among z.clients (knows flags) dirty f b) u)
        (λ u.
        or_right (get_or (used_held flags) (place f b) false) (dirty_among z.clients (knows flags) dirty f b)
        (known_alike
        ∙ takes_not (get_or (used_held flags) (place f b) false) (dirty_among z.clients (known_held false flags) dirty f b)
        (get_or dirty (cell i f b) false) e u o))

  -- what the tests of an accepted write say, by the flags
  module _
      (own : ClientFile)
      (takes : Bool)
      (is_takes : takes ≡ takes_held z.clients i f b flags dirty)
      (within : ((write_needs_server own || takes) && get_or flags (max_clients + 1 + i) false) ≡ false)
      (heard : ((get_or flags i false || (write_needs_server own || takes)) && recovering_held flags) ≡ false) where
    abbrev used_then : List Bool
    used_then = cond own.opens.caching (used_held flags) (set (used_held flags) (place f b) true)

    abbrev dirty_then : List Bool
    dirty_then = cond own.opens.caching (set dirty (cell i f b) true) dirty

    abbrev Counts : (ℕ → ℕ → Type 0) → Bool → Type 0
    Counts P caching =
        P
        (counted_on z (knows flags) (cond caching (used_held flags) (set (used_held flags) (place f b) true))
        (cond caching (set dirty (cell i f b) true) dirty) f)
        (counted_on z (knows flags) (used_held flags) dirty f)

    -- the server runs, and knows the client, where the write needs it
    module _ (needs : (write_needs_server own || takes) ≡ true) where
      runs_then : recovering_held flags ≡ false
      runs_then =
          runs_passed (get_or flags i false) (write_needs_server own || takes) (recovering_held flags) needs
          heard

      known-then : knows flags i ≡ true
      known-then =
          known_running flags i
          (needs_passed (write_needs_server own || takes) (get_or flags (max_clients + 1 + i) false) needs within)
          runs_then

    -- one that takes a place: the block is counted now, if there is room for its flag
    pub one-taken :
        takes ≡ true
        → (counted : Bool)
        → counted ≡ (get_or used_then (place f b) false || get_or dirty_then (cell i f b) false)
        → counted_on z (knows flags) used_then dirty_then f
        ≡ counted_on z (knows flags) (used_held flags) dirty f + cond counted 1 0
    one-taken e counted is =
        let needs : (write_needs_server own || takes) ≡ true = or_right (write_needs_server own) takes e in
        let off = not-counted (runs_then needs) (sym is_takes ∙ e) in
        let (unused, _, clean) =
        takes_so (get_or (used_held flags) (place f b) false) (dirty_among z.clients (known_held false flags) dirty f b)
        (get_or dirty (cell i f b) false) (sym is_takes ∙ e) in
        split own.opens.caching
        (λ c.
        let seen : counted ≡ (get_or (used_held flags) (place f b) false || get_or (set dirty (cell i f b) true) (cell i f b) false) =
        is
        ∙ ap₂ (λ (u d : List Bool). get_or u (place f b) false || get_or d (cell i f b) false) (when _ _ c) (when _ _ c) in
        subst⁻¹ (Counts (λ k k'. k ≡ k' + cond counted 1 0)) c
        (split (ltb (cell i f b) (length dirty))
        (λ inside.
        let room : cell i f b < length dirty = ltb-true (cell i f b) (length dirty) inside in
        let yes : counted ≡ true =
        seen ∙ or_right (get_or (used_held flags) (place f b) false) _ (get_or-set_same dirty (cell i f b) true false room) in
        rw yes (one_more (used_held flags) (set dirty (cell i f b) true) dirty_others off (dirty_now room (known-then needs))))
        (λ outside.
        let same : set dirty (cell i f b) true ≡ dirty =
        set_out dirty (cell i f b) true (ltb-false (cell i f b) (length dirty) outside) in
        let no : counted ≡ false =
        seen
        ∙ ap₂ (λ (x y : Bool). x || y) unused (ap (λ (l : List Bool). get_or l (cell i f b) false) same ∙ clean) in
        rw no (ap (λ (l : List Bool). counted_on z (knows flags) (used_held flags) l f) same ∙ sym (add-zero _)))))
        (λ c.
        let yes : counted ≡ true =
        is
        ∙ ap₂ (λ (u d : List Bool). get_or u (place f b) false || get_or d (cell i f b) false) (unless _ _ c) (unless _ _ c)
        ∙ or_left _ (get_or dirty (cell i f b) false) (used_there (used_held flags) f b (length_used flags size) fits.0 fits.1) in
        subst⁻¹ (Counts (λ k k'. k ≡ k' + cond counted 1 0)) c
        (rw yes (one_more (set (used_held flags) (place f b) true) dirty used_others off used_now)))

    -- a cached one that takes none
    cached-same :
        takes ≡ false
        → cell i f b < length dirty
        → counted_on z (knows flags) (used_held flags) (set dirty (cell i f b) true) f
        ≡ counted_on z (knows flags) (used_held flags) dirty f
    cached-same e inside =
        split (recovering_held flags)
        (λ r.
        let silent : get_or flags i false ≡ false =
        unheard_passed (get_or flags i false) (write_needs_server own || takes) (recovering_held flags) r heard in
        let unknown : knows flags i ≡ false = rw (r, silent) (and_none (not (get_or flags (max_clients + 1 + i) false))) in
        same_count (used_held flags) (set dirty (cell i f b) true) dirty_others
        (ap (λ (d : Bool). get_or (used_held flags) (place f b) false || d)
        (dirty_unknown z.clients (knows flags) dirty i f b true unknown)))
        (λ r.
        split (get_or dirty (cell i f b) false)
        (λ d.
        ap (λ (l : List Bool). counted_on z (knows flags) (used_held flags) l f)
        (ap (set dirty (cell i f b)) (sym d) ∙ set-get_or dirty (cell i f b) false))
        (λ d.
        same_count (used_held flags) (set dirty (cell i f b) true) dirty_others
        (split (get_or (used_held flags) (place f b) false)
        (λ u.
        or_left (get_or (used_held flags) (place f b) false) _ u
        ∙ sym (or_left (get_or (used_held flags) (place f b) false) _ u))
        (λ u.
        let was : dirty_among z.clients (knows flags) dirty f b ≡ true =
        known_alike r
        ∙ takes_not (get_or (used_held flags) (place f b) false) (dirty_among z.clients (known_held false flags) dirty f b)
        (get_or dirty (cell i f b) false) (sym is_takes ∙ e) u d in
        or_right (get_or (used_held flags) (place f b) false) _ (dirty_more z.clients (knows flags) dirty i f b inside was)
        ∙ sym (or_right (get_or (used_held flags) (place f b) false) _ was)))))
      where
        and_none : (x : Bool) → (x && false) ≡ false
        and_none true = refl
        and_none false = refl

    -- one at the server that takes none
    server-same :
        takes ≡ false
        → own.opens.caching ≡ false
        → counted_on z (knows flags) (set (used_held flags) (place f b) true) dirty f
        ≡ counted_on z (knows flags) (used_held flags) dirty f
    server-same e c =
        let needs : (write_needs_server own || takes) ≡ true = or_left (write_needs_server own) takes (uncached_needs own c) in
        same_count (set (used_held flags) (place f b) true) dirty used_others
        (used_now
        ∙ sym (split (get_or dirty (cell i f b) false)
        (λ d.
        or_right (get_or (used_held flags) (place f b) false) (dirty_among z.clients (knows flags) dirty f b)
        (dirty_there z.clients (knows flags) dirty i f b client (known-then needs) d))
        (λ d. was-counted (runs_then needs) (sym is_takes ∙ e) d)))

    pub none_taken :
        takes ≡ false
        → counted_on z (knows flags) used_then dirty_then f ≡ counted_on z (knows flags) (used_held flags) dirty f
    none_taken e =
        split own.opens.caching
        (λ c.
        subst⁻¹ (Counts (λ k k'. k ≡ k')) c
        (split (ltb (cell i f b) (length dirty))
        (λ inside. cached-same e (ltb-true (cell i f b) (length dirty) inside))
        (λ outside.
        ap (λ (l : List Bool). counted_on z (knows flags) (used_held flags) l f)
        (set_out dirty (cell i f b) true (ltb-false (cell i f b) (length dirty) outside)))))
        (λ c. subst⁻¹ (Counts (λ k k'. k ≡ k')) c (server-same e c))

-- ---- the step

module _
    {sizes : Sizes}
    {i f b v : ℕ}
    {t : List ℕ}
    {flags : List Bool}
    {a₀ a : Stores}
    {reply : Reply}
    {calls : List ℕ}
    {own : ClientFile}
    {takes full : Bool}
    (p : Permitted sizes)
    (long : length t ≡ table_words)
    (size : length flags ≡ lent_flags)
    (is_own : own ≡ side_held (word_at t (f % max_files) (10 + i % max_clients)))
    (is_takes : takes ≡ takes_held sizes.clients (i % max_clients) (f % max_files) (b % max_blocks) flags a₀.dirty)
    (Full-is : full ≡ (takes && (eqb (free_held t) 0 || eqb sizes.store 0)))
    (m : Moves takes full sizes (Write i f b v) t flags a₀ t flags a reply calls) where
  -- at numbers that are there
  takes_there : i < max_clients → f < max_files → b < max_blocks → takes ≡ takes_held sizes.clients i f b flags a₀.dirty
  takes_there hi hf hb =
      is_takes
      ∙ ap (λ (k : ℕ). takes_held sizes.clients k (f % max_files) (b % max_blocks) flags a₀.dirty) (mod-eq_of_lt hi)
      ∙ ap₂ (λ (g c : ℕ). takes_held sizes.clients i g c flags a₀.dirty) (mod-eq_of_lt hf) (mod-eq_of_lt hb)

  write_alike : Alike takes full sizes (Write i f b v) t flags a₀
  write_alike given force =
      let s : Service = service_held given t flags a₀ in
      let z : Sizes = in_force given in
      split (leb z.clients i || leb z.files f || leb z.blocks b)
      (λ e. write_early (takes_place s (Write i f b v)) (is_full s) takes full s i f b v e)
      (λ e.
      let (c, g, k) = none_of (leb z.clients i) (leb z.files f) (leb z.blocks b) e in
      let most : Permitted z = subst (λ (z : Sizes). Permitted z) force p in
      let same : takes_place s (Write i f b v) ≡ takes =
      takes_held_lem given sizes.clients i f b v t flags a₀ (ap (λ (z : Sizes). z.clients) force) p.clients
      ∙ sym (takes_there
      (omega (arith, leb-false z.clients i c, most.clients))
      (omega (arith, leb-false z.files f g, most.files))
      (omega (arith, leb-false z.blocks b k, most.blocks))) in
      let none : is_full s ≡ (eqb (free_held t) 0 || eqb sizes.store 0) =
      full_alike z.store (free_held t) ∙ ap (λ (z : Sizes). eqb (free_held t) 0 || eqb z.store 0) (sym force) in
      write_full (takes_place s (Write i f b v)) (is_full s) s i f b v
      ∙ ap₂ (λ (x y : Bool). moved x y s (Write i f b v)) same (ap₂ (λ (x y : Bool). x && y) same none ∙ sym Full-is))

  write_free : LeavesFree (Write i f b v)
  unfolding moved
  write_free takes full s = refl

  pub write_refused : is_refused reply ≡ true → Serves sizes (Write i f b v) t flags a₀ t flags a reply calls
  write_refused e = serves-refused m write_alike e

  pub write_serves :
      (at : ℕ) (t' : List ℕ) (flags' : List Bool) (counted : Bool)
      → at ≡ place (f % max_files) (b % max_blocks)
      → flags' ≡ cond own.opens.caching flags (set flags (state_flags + at) true)
      → (takes ≡ true
      → counted
      ≡ (get_or flags' (state_flags + place (f % max_files) (b % max_blocks)) false
      || get_or a.dirty (cell (i % max_clients) (f % max_files) (b % max_blocks)) false))
      → t' ≡ cond takes (set t table_rows (recounted sizes.store (free_held t) 0 (cond counted 1 0))) t
      → is_refused reply ≡ false
      → Serves sizes (Write i f b v) t flags a₀ t' flags' a reply calls
  write_serves at t' flags' now-counted is bits seen put e =
      let (tests, done, same) = did m p e in
      let client : i < sizes.clients = leb-false sizes.clients i tests.0 in
      let file : f < sizes.files = leb-false sizes.files f tests.1.0 in
      let block : b < sizes.blocks = leb-false sizes.blocks b tests.1.1.0 in
      let hi : i < max_clients = omega (arith, client, p.clients) in
      let hf : f < max_files = omega (arith, file, p.files) in
      let hb : b < max_blocks = omega (arith, block, p.blocks) in
      let there : at ≡ place f b = is ∙ ap₂ (λ (g c : ℕ). place g c) (mod-eq_of_lt hf) (mod-eq_of_lt hb) in
      let side : (given : Sizes) → client_at (service_held given t flags a₀) i f ≡ own =
      λ given.
      ap (λ (y : Sides). side_of y i) (get_d_listed max_files (λ g. sides_held t g) no_sides f hf)
      ∙ side_held_lem t f i hi
      ∙ ap₂ (λ (g j : ℕ). side_held (word_at t g (10 + j))) (sym (mod-eq_of_lt hf)) (sym (mod-eq_of_lt hi))
      ∙ sym is_own in
      let s : Service = service_held sizes t flags a₀ in
      let within : ((write_needs_server own || takes) && get_or flags (max_clients + 1 + i) false) ≡ false =
      ap₂ (λ (o : ClientFile) (x : Bool). (write_needs_server o || takes) && x) (sym (side sizes)) (sym (flag_embargoed flags i hi))
      ∙ tests.1.1.1.0 in
      let heard : ((get_or flags i false || (write_needs_server own || takes)) && recovering_held flags) ≡ false =
      ap₂ (λ (o : ClientFile) (x : Bool). (x || (write_needs_server o || takes)) && recovering_held flags) (sym (side sizes))
      (sym (get_or-take max_clients flags i false hi))
      ∙ tests.1.1.1.1.0 in
      let u : List Bool = cond own.opens.caching (used_held flags) (set (used_held flags) (place f b) true) in
      let d : List Bool = cond own.opens.caching (set a₀.dirty (cell i f b) true) a₀.dirty in
      let used : used_held flags' ≡ u =
      ap used_held bits
      ∙ split own.opens.caching
      (λ c. rw c)
      (λ c. rw c (used_set flags at true ∙ ap (λ (k : ℕ). set (used_held flags) k true) there)) in
      let dirty : a.dirty ≡ d =
      ap (λ (s : Service). s.dirty) done
      ∙ ap (λ (o : ClientFile). cond o.opens.caching (set a₀.dirty (cell i f b) true) a₀.dirty) (side sizes) in
      let kept : Keeping t flags t flags' =
      subst⁻¹ (λ (l : List Bool). Keeping t flags t l) bits
      (split own.opens.caching
      (λ c. rw c (all_kept t flags))
      (λ c.
      rw c
      (record {
        long = refl;
        flags_long = length-set flags (state_flags + at) true;
        words = λ g k there below. refl;
        state = state_kept flags at true;
      }))) in
      let taken = takes_there hi hf hb in
      let counted : counted_on sizes (knows flags) (used_held flags') a.dirty f ≡ counted_on sizes (knows flags) u d f =
      ap₂ (λ (x y : List Bool). counted_on sizes (knows flags) x y f) used dirty in
      let T : ℕ = counted_on sizes (knows flags) (used_held flags) a₀.dirty f in
      let T' : ℕ = counted_on sizes (knows flags) (used_held flags') a.dirty f in
      split takes
      (λ yes.
      let marks : now-counted ≡ (get_or u (place f b) false || get_or d (cell i f b) false) =
      seen yes
      ∙ ap₂ (λ (g c : ℕ). get_or flags' (state_flags + place g c) false || get_or a.dirty (cell (i % max_clients) g c) false)
      (mod-eq_of_lt hf) (mod-eq_of_lt hb)
      ∙ ap (λ (j : ℕ). get_or flags' (state_flags + place f b) false || get_or a.dirty (cell j f b) false) (mod-eq_of_lt hi)
      ∙ ap₂ (λ (x : Bool) (l : List Bool). x || get_or l (cell i f b) false)
      (sym (get_or-drop state_flags flags' (place f b) false) ∙ ap (λ (l : List Bool). get_or l (place f b) false) used) dirty in
      let step : ℕ = cond now-counted 1 0 in
      let more : T' ≡ T + step =
      counted
      ∙ one-taken sizes p i f b flags a₀.dirty size client file block own takes taken within heard yes now-counted marks in
      let now : t' ≡ set t table_rows (recounted sizes.store (free_held t) 0 step) =
      put ∙ ap (λ (x : Bool). cond x (set t table_rows (recounted sizes.store (free_held t) 0 step)) t) yes in
      subst⁻¹ (λ (w : List ℕ). Serves sizes (Write i f b v) t flags a₀ w flags' a reply calls) now
      (spends m p f (λ s s'. refl) write_alike (set t table_rows (recounted sizes.store (free_held t) 0 step)) flags' e
      (word_kept t flags flags' (recounted sizes.store (free_held t) 0 step) kept)
      (λ given force. used ∙ ap (λ (o : ClientFile). cond o.opens.caching (used_held flags) (set (used_held flags) (place f b) true)) (sym (side given)))
      (free_set t (recounted sizes.store (free_held t) 0 step) long
      ∙ recounted_near sizes.store (free_held t) 0 step T T' (omega (arith, more)))))
      (λ no.
      let same : T' ≡ T =
      counted ∙ none_taken sizes p i f b flags a₀.dirty size client file block own takes taken within heard no in
      let now : t' ≡ t = put ∙ ap (λ (x : Bool). cond x (set t table_rows (recounted sizes.store (free_held t) 0 (cond now-counted 1 0))) t) no in
      subst⁻¹ (λ (w : List ℕ). Serves sizes (Write i f b v) t flags a₀ w flags' a reply calls) now
      (spends m p f (λ s s'. refl) write_alike t flags' e kept
      (λ given force. used ∙ ap (λ (o : ClientFile). cond o.opens.caching (used_held flags) (set (used_held flags) (place f b) true)) (sym (side given)))
      (sym (recounted_same sizes.store (free_held t) T T' (sym same)))))
