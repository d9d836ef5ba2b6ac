-- The steps on one file, with the store: what the code counts of the file is what the definition of the step counts.
-- Assumes nothing.
use Prim.Native.Nat.{ℕ, zero, suc, ◌+◌, ◌%◌, ◌<◌, ◌≤◌}
use mathlib.Core.Path.{◌≡◌, refl, sym, ap, ap₂, ◌∙◌, subst⁻¹}
use mathlib.Core.Bool.{Bool, true, false, cond, ◌&&◌, ◌||◌, or-true}
use mathlib.Core.List.{List}
use native.Mathlib.Nat.{mod-eq_of_lt}
use native.Mathlib.Omega.{arith}
use lib.Dec.{eqb, ltb}
use lib.ListN.{length, get_or, set, take, length-set}
use lib.Seq.{get_or-set_same, get_or-set_other}
use borrow.Author.Tests.{eqb-true, eqb-false, leb-false, not-false}
use Rattle.records.specs.declared.record.Mode.{Mode}
use Rattle.sizes.specs.declared.sizes.Sizes.{Sizes}
use Rattle.sizes.specs.Sizes.{max_clients, max_files, max_blocks, max_places, in_force, Permitted, place, cell, first_place, first_cell}
use Rattle.sizes.proofs.Choosing.{split, conflict}
use Rattle.decision.specs.Callback.{writes_back}
use Rattle.decision.specs.Lists.{count, stored}
use Rattle.decision.proofs.Storing.{stored_agree, stored_same}
use Rattle.protocol.specs.declared.reply.Reply.{Reply}
use Rattle.protocol.specs.declared.reply.Reply.TheVariants.{Granted, Waiting, Value, Refused, Answered}
use Rattle.protocol.specs.declared.reply.Reply.TheVariants.{AnsweredGrant, Done}
use Rattle.protocol.specs.declared.step.Step.{Step}
use Rattle.protocol.specs.declared.step.Step.TheVariants.{Open, Close, Read, Flush, Answer}
use Rattle.protocol.specs.Client.{kept, keeps_blocks}
use Rattle.protocol.specs.Entry.{call_to, calls_for, calls_out, grant_of}
use Rattle.protocol.specs.Reply.{is_refused}
use Rattle.blocks.specs.declared.stores.Stores.{Stores}
use Rattle.blocks.specs.Stores.{sent_blocks}
use Rattle.access.specs.BlockStep.{block_step}
use Rattle.file.specs.FileStep.{FileAfter, answered}
use Rattle.words.specs.Rows.{listed, table_rows, table_words}
use Rattle.words.proofs.Listing.{get_d_listed}
use Rattle.service.specs.declared.service.Service.{Service}
use Rattle.service.specs.Contents.{sizes_of, entry_at, client_at, file_at, stores_of, with_space}
use Rattle.service.specs.Lent.{state_flags, lent_flags, recovering_held, used_held, free_held, service_held}
use Rattle.service.specs.Served.{sent_in, marked, Moves, Serves}
use Rattle.service.specs.Space.{any_below, dirty_among, is_counted, counted_on, is_known, used_after, recounted, free_after}
use Rattle.service.specs.Step.{moved}
use Rattle.service.proofs.Tests.{either}
use Rattle.service.proofs.Lists.{count_none}
use Rattle.service.proofs.Accepted.{done_of}
use Rattle.service.proofs.Counting.{any_cong, any_at, count_cong}
use Rattle.service.proofs.LentFlags.{flag_embargoed, length_used, state_kept, used_set, used_marked, state_marked, length_marked}
use Rattle.service.proofs.Storing.{Keeping, all_kept, word_kept, free_set, Alike, dirty_rests, serves-refused, serves-done}
use Rattle.service.proofs.Storing.{LeavesFree, did, free_stays}
use Rattle.service.proofs.Storing.{knows, counted_by_lem, counted_held_lem, known_kept, recounted_same, recount_rests}

-- ---- a step on one file

-- its recount is that of the file
abbrev pub Recounts : Step → ℕ → Type 0
Recounts x f =
    (s s' : Service)
    → free_after s x s'
    ≡ recounted (sizes_of s).store s.server.free
    (counted_on (sizes_of s) (is_known s) s.server.used s.dirty f)
    (counted_on (sizes_of s') (is_known s') s'.server.used s'.dirty f)

module _
    {takes full : Bool}
    {sizes : Sizes}
    {x : Step}
    {t₀ t : List ℕ}
    {flags : List Bool}
    {a₀ a : Stores}
    {reply : Reply}
    {calls : List ℕ}
    (m : Moves takes full sizes x t₀ flags a₀ t flags a reply calls)
    (p : Permitted sizes) where
  pub spends :
      (f : ℕ)
      → Recounts x f
      → Alike takes full sizes x t₀ flags a₀
      → (t' : List ℕ) (flags' : List Bool)
      → is_refused reply ≡ false
      → Keeping t flags t' flags'
      → ((given : Sizes) → sizes ≡ in_force given → used_held flags' ≡ used_after (service_held given t₀ flags a₀) x)
      → free_held t'
      ≡ recounted sizes.store (free_held t₀)
      (counted_on sizes (knows flags) (used_held flags) a₀.dirty f)
      (counted_on sizes (knows flags) (used_held flags') a.dirty f)
      → Serves sizes x t₀ flags a₀ t' flags' a reply calls
  spends f recounts alike t' flags' e k used free =
      serves-done m alike t' flags' e k used
      (λ given force.
      let s = service_held given t₀ flags a₀ in
      let s' = with_space (service_held given t flags a) (used_held flags') (free_held t₀) in
      let c : ℕ = counted_on sizes (knows flags) (used_held flags) a₀.dirty f in
      let c' : ℕ = counted_on sizes (knows flags) (used_held flags') a.dirty f in
      free
      ∙ ap (λ (z : Sizes). recounted z.store (free_held t₀) c c') force
      ∙ ap₂ (λ (c c' : ℕ). recounted (in_force given).store (free_held t₀) c c')
      (sym (counted_held_lem p given force t₀ flags a₀ (used_held flags) a₀.dirty f))
      (sym (counted_held_lem p given force t flags a (used_held flags') a.dirty f))
      ∙ sym (recounts s s'))

  -- where the store is as it was
  pub spends_nothing :
      (f : ℕ)
      → Recounts x f
      → LeavesFree x
      → Alike takes full sizes x t₀ flags a₀
      → ((s : Service) → used_after s x ≡ s.server.used)
      → a.dirty ≡ a₀.dirty
      → Serves sizes x t₀ flags a₀ t flags a reply calls
  spends_nothing f recounts stays alike unused clean =
      split (is_refused reply)
      (λ e. serves-refused m alike e)
      (λ e.
      spends f recounts alike t flags e (all_kept t flags)
      (λ given force. sym (unused (service_held given t₀ flags a₀)))
      (free_stays m p stays
      ∙ sym (recounted_same sizes.store (free_held t₀)
      (counted_on sizes (knows flags) (used_held flags) a₀.dirty f)
      (counted_on sizes (knows flags) (used_held flags) a.dirty f)
      (ap (λ (d : List Bool). counted_on sizes (knows flags) (used_held flags) d f) (sym clean)))))

-- ---- an open

-- what is clean is dropped clean
kept_clean :
    (n base : ℕ) (keep : Bool) (l : List Bool)
    → n ≤ max_blocks
    → ((b : ℕ) → b < max_blocks → get_or l (base + b) false ≡ false)
    → kept n keep false base l ≡ l
kept_clean n base true l few clean = refl
kept_clean n base false l few clean =
    stored_same n (λ b. base + b) (λ b. false) l false (λ b h. sym (clean b (omega (arith, h, few))))

open_clean :
    (z : Sizes) (s : Service) (mode : Mode) (i f : ℕ)
    → z.blocks ≤ max_blocks
    → ((b : ℕ) → b < max_blocks → get_or s.dirty (first_cell i f + b) false ≡ false)
    → (done_of z s (Open mode i f)).service.dirty ≡ s.dirty
open_clean z s mode i f few clean =
    either (λ (o : FileAfter). o.stores.dirty ≡ s.dirty) (eqb (calls_for z.clients (entry_at s f) i mode) 0)
    (λ e.
    kept_clean z.blocks (first_cell i f)
    (keeps_blocks mode (grant_of z.clients (entry_at s f) i mode) (client_at s i f))
    s.dirty few clean)
    (λ e. refl)

module _
    {sizes : Sizes}
    {mode : Mode}
    {i f : ℕ}
    {t₀ t : List ℕ}
    {flags : List Bool}
    {a₀ a : Stores}
    {reply : Reply}
    {calls : List ℕ}
    (p : Permitted sizes)
    (long : length t₀ ≡ table_words)
    (m : Moves false false sizes (Open mode i f) t₀ flags a₀ t flags a reply calls) where
  open_alike : Alike false false sizes (Open mode i f) t₀ flags a₀
  unfolding moved
  open_alike given force = refl

  open_free : LeavesFree (Open mode i f)
  unfolding moved
  open_free takes full s = refl

  abbrev opened_count : List Bool → ℕ → ℕ
  opened_count dirty g = counted_on sizes (knows flags) (used_held flags) dirty g

  open_done :
      (drops : Bool) (c c' : ℕ) (t' : List ℕ)
      → (drops ≡ false → (b : ℕ) → b < max_blocks → get_or a₀.dirty (first_cell (i % max_clients) (f % max_files) + b) false ≡ false)
      → c ≡ cond drops (opened_count a₀.dirty (f % max_files)) 0
      → c' ≡ cond drops (opened_count a.dirty (f % max_files)) 0
      → t' ≡ set t table_rows (recounted sizes.store (free_held t) c c')
      → is_refused reply ≡ false
      → Serves sizes (Open mode i f) t₀ flags a₀ t' flags a reply calls
  open_done drops c c' t' clean was is put e =
      let (tests, done, same) = did m p e in
      let client : i < max_clients = omega (arith, leb-false sizes.clients i tests.0, p.clients) in
      let file : f < max_files = omega (arith, leb-false sizes.files f tests.1.0, p.files) in
      let here : f % max_files ≡ f = mod-eq_of_lt file in
      let counts : recounted sizes.store (free_held t₀) c c'
      ≡ recounted sizes.store (free_held t₀) (opened_count a₀.dirty f) (opened_count a.dirty f) =
      split drops
      (λ d.
      ap₂ (λ (k k' : ℕ). recounted sizes.store (free_held t₀) k k')
      (was ∙ ap (λ (b : Bool). cond b (opened_count a₀.dirty (f % max_files)) 0) d ∙ ap (opened_count a₀.dirty) here)
      (is ∙ ap (λ (b : Bool). cond b (opened_count a.dirty (f % max_files)) 0) d ∙ ap (opened_count a.dirty) here))
      (λ d.
      let cells : first_cell (i % max_clients) (f % max_files) ≡ first_cell i f =
      ap₂ (λ (j g : ℕ). first_cell j g) (mod-eq_of_lt client) here in
      let rests : a.dirty ≡ a₀.dirty =
      ap (λ (s : Service). s.dirty) done
      ∙ open_clean sizes (service_held sizes t₀ flags a₀) mode i f p.blocks
      (λ b h. ap (λ (k : ℕ). get_or a₀.dirty (k + b) false) (sym cells) ∙ clean d b h) in
      recounted_same sizes.store (free_held t₀) c c'
      (was
      ∙ ap (λ (b : Bool). cond b (opened_count a₀.dirty (f % max_files)) 0) d
      ∙ sym (ap (λ (b : Bool). cond b (opened_count a.dirty (f % max_files)) 0) d)
      ∙ sym is)
      ∙ sym (recounted_same sizes.store (free_held t₀) (opened_count a₀.dirty f) (opened_count a.dirty f)
      (ap (λ (l : List Bool). opened_count l f) (sym rests)))) in
      subst⁻¹ (λ (w : List ℕ). Serves sizes (Open mode i f) t₀ flags a₀ w flags a reply calls) put
      (spends m p f (λ s s'. refl) open_alike (set t table_rows (recounted sizes.store (free_held t) c c')) flags e
      (word_kept t flags flags (recounted sizes.store (free_held t) c c') (all_kept t flags))
      (λ given force. refl)
      (free_set t (recounted sizes.store (free_held t) c c') (m.long ∙ long)
      ∙ ap (λ (n : ℕ). recounted sizes.store n c c') (free_stays m p open_free)
      ∙ counts))

  pub open_serves :
      (drops : Bool) (c c' : ℕ) (t' : List ℕ)
      → (drops ≡ false → (b : ℕ) → b < max_blocks → get_or a₀.dirty (first_cell (i % max_clients) (f % max_files) + b) false ≡ false)
      → c ≡ cond drops (opened_count a₀.dirty (f % max_files)) 0
      → c' ≡ cond drops (opened_count a.dirty (f % max_files)) 0
      → t' ≡ set t table_rows (recounted sizes.store (free_held t) c c')
      → Serves sizes (Open mode i f) t₀ flags a₀ t' flags a reply calls
  open_serves drops c c' t' clean was is put =
      split (is_refused reply)
      (λ e.
      let same : c ≡ c' =
      was
      ∙ ap (λ (l : List Bool). cond drops (opened_count l (f % max_files)) 0) (sym (dirty_rests m p e))
      ∙ sym is in
      subst⁻¹ (λ (w : List ℕ). Serves sizes (Open mode i f) t₀ flags a₀ w flags a reply calls)
      (put ∙ recount_rests sizes.store t c c' same)
      (serves-refused m open_alike e))
      (λ e. open_done drops c c' t' clean was is put e)

-- ---- a close and a read

pub close_serves :
    {sizes : Sizes} {mode : Mode} {i f : ℕ} {t₀ t : List ℕ} {flags : List Bool} {a₀ a : Stores} {reply : Reply}
    {calls : List ℕ}
    → Permitted sizes
    → Moves false false sizes (Close mode i f) t₀ flags a₀ t flags a reply calls
    → a.dirty ≡ a₀.dirty
    → Serves sizes (Close mode i f) t₀ flags a₀ t flags a reply calls
unfolding moved
close_serves {f = f} p m clean =
    spends_nothing m p f (λ s s'. refl) (λ takes full s. refl) (λ given force. refl) (λ s. refl) clean

pub read_serves :
    {sizes : Sizes} {i f b : ℕ} {t₀ t : List ℕ} {flags : List Bool} {a₀ a : Stores} {reply : Reply} {calls : List ℕ}
    → Permitted sizes
    → Moves false false sizes (Read i f b) t₀ flags a₀ t flags a reply calls
    → Serves sizes (Read i f b) t₀ flags a₀ t flags a reply calls
unfolding moved block_step
read_serves {f = f} {reply = reply} p m =
    spends_nothing m p f (λ s s'. refl) (λ takes full s. refl) (λ given force. refl) (λ s. refl)
    (split (is_refused reply)
    (λ e. dirty_rests m p e)
    (λ e. let (tests, done, same) = did m p e in ap (λ (s : Service). s.dirty) done))

-- ---- one block

module _ (n : ℕ) (who : ℕ → Bool) (dirty : List Bool) (i f b : ℕ) (v : Bool) where
  -- the other blocks of the file
  pub dirty_beside :
      (c : ℕ)
      → c < max_blocks
      → b < max_blocks
      → (c ≡ b → ⊥)
      → dirty_among n who (set dirty (cell i f b) v) f c ≡ dirty_among n who dirty f c
  dirty_beside c hc hb off =
      any_cong n (λ j. who j && get_or (set dirty (cell i f b) v) (cell j f c) false) (λ j. who j && get_or dirty (cell j f c) false)
      (λ j h.
      ap (λ (d : Bool). who j && d)
      (get_or-set_other dirty (cell i f b) (cell j f c) v false (λ e. off (omega (arith, hc, hb, e)))))

  -- a client that the server does not know of
  pub dirty_unknown : who i ≡ false → dirty_among n who (set dirty (cell i f b) v) f b ≡ dirty_among n who dirty f b
  dirty_unknown out =
      any_cong n (λ j. who j && get_or (set dirty (cell i f b) v) (cell j f b) false) (λ j. who j && get_or dirty (cell j f b) false)
      (λ j h.
      split (eqb j i)
      (λ e.
      let none : who j ≡ false = ap who (eqb-true j i e) ∙ out in
      ap (λ (w : Bool). w && get_or (set dirty (cell i f b) v) (cell j f b) false) none
      ∙ sym (ap (λ (w : Bool). w && get_or dirty (cell j f b) false) none))
      (λ e.
      ap (λ (d : Bool). who j && d)
      (get_or-set_other dirty (cell i f b) (cell j f b) v false (λ q. eqb-false j i e (omega (arith, q))))))

pub or_left : (a b : Bool) → a ≡ true → (a || b) ≡ true
or_left a b e = rw e

pub or_right : (a b : Bool) → b ≡ true → (a || b) ≡ true
or_right a b e = ap (λ (x : Bool). a || x) e ∙ or-true a

-- some number has a property that follows from one that some number has
any_more :
    (n : ℕ) (p q : ℕ → Bool) → ((i : ℕ) → p i ≡ true → q i ≡ true) → any_below n p ≡ true → any_below n q ≡ true
unfolding any_below
any_more zero p q then e = e
any_more (suc n) p q then e =
    split (p n)
    (λ last. or_right (any_below n q) (q n) (then n last))
    (λ last. or_left (any_below n q) (q n) (any_more n p q then (without (any_below n p) (p n) last e)))
  where
    without : (a b : Bool) → b ≡ false → (a || b) ≡ true → a ≡ true
    without true b f h = refl
    without false b f h = conflict h f

pub dirty_more :
    (n : ℕ) (who : ℕ → Bool) (dirty : List Bool) (i f b : ℕ)
    → cell i f b < length dirty
    → dirty_among n who dirty f b ≡ true
    → dirty_among n who (set dirty (cell i f b) true) f b ≡ true
dirty_more n who dirty i f b room e =
    any_more n (λ j. who j && get_or dirty (cell j f b) false) (λ j. who j && get_or (set dirty (cell i f b) true) (cell j f b) false)
    (λ j h.
    split (eqb j i)
    (λ same.
    let is : j ≡ i = eqb-true j i same in
    ap₂ (λ (w d : Bool). w && d) (first (who j) (get_or dirty (cell j f b) false) h)
    (ap (λ (k : ℕ). get_or (set dirty (cell i f b) true) (cell k f b) false) is ∙ get_or-set_same dirty (cell i f b) true false room))
    (λ other.
    ap (λ (d : Bool). who j && d)
    (get_or-set_other dirty (cell i f b) (cell j f b) true false (λ q. eqb-false j i other (omega (arith, q))))
    ∙ h))
    e
  where
    first : (a b : Bool) → (a && b) ≡ true → a ≡ true
    first true b h = refl
    first false b h = h

-- the client, whom the server knows of, has the block dirty
pub dirty_there :
    (n : ℕ) (who : ℕ → Bool) (dirty : List Bool) (i f b : ℕ)
    → i < n
    → who i ≡ true
    → get_or dirty (cell i f b) false ≡ true
    → dirty_among n who dirty f b ≡ true
dirty_there n who dirty i f b h known d =
    any_at n (λ j. who j && get_or dirty (cell j f b) false) i h (ap₂ (λ (w x : Bool). w && x) known d)

pub used_beside :
    (used : List Bool) (f b c : ℕ) (v : Bool)
    → (c ≡ b → ⊥)
    → get_or (set used (place f b) v) (place f c) false ≡ get_or used (place f c) false
used_beside used f b c v off = get_or-set_other used (place f b) (place f c) v false (λ e. off (omega (arith, e)))

pub used_there :
    (used : List Bool) (f b : ℕ)
    → length used ≡ max_places
    → f < max_files
    → b < max_blocks
    → get_or (set used (place f b) true) (place f b) false ≡ true
used_there used f b long hf hb = get_or-set_same used (place f b) true false (omega (arith, long, hf, hb))

-- a client without embargo is known where the server runs
pub known_running :
    (flags : List Bool) (i : ℕ)
    → get_or flags (max_clients + 1 + i) false ≡ false
    → recovering_held flags ≡ false
    → knows flags i ≡ true
known_running flags i out runs = rw (out, runs)

-- ---- a flush

module _
    {sizes : Sizes}
    {i f b : ℕ}
    {t₀ t : List ℕ}
    {flags : List Bool}
    {a₀ a : Stores}
    {reply : Reply}
    {calls : List ℕ}
    (p : Permitted sizes)
    (size : length flags ≡ lent_flags)
    (m : Moves false false sizes (Flush i f b) t₀ flags a₀ t flags a reply calls) where
  flush_alike : Alike false false sizes (Flush i f b) t₀ flags a₀
  unfolding moved
  flush_alike given force = refl

  flush_free : LeavesFree (Flush i f b)
  unfolding moved
  flush_free takes full s = refl

  pub flush_refused : is_refused reply ≡ true → Serves sizes (Flush i f b) t₀ flags a₀ t flags a reply calls
  flush_refused e = serves-refused m flush_alike e

  pub flush_serves :
      (at : ℕ)
      → at ≡ place (f % max_files) (b % max_blocks)
      → is_refused reply ≡ false
      → Serves sizes (Flush i f b) t₀ flags a₀ t (set flags (state_flags + at) true) a reply calls
  flush_serves at is e =
      let (tests, done, same) = did m p e in
      let client : i < sizes.clients = leb-false sizes.clients i tests.0 in
      let file : f < max_files = omega (arith, leb-false sizes.files f tests.1.0, p.files) in
      let block : b < max_blocks = omega (arith, leb-false sizes.blocks b tests.1.1.0, p.blocks) in
      let there : at ≡ place f b = is ∙ ap₂ (λ (g c : ℕ). place g c) (mod-eq_of_lt file) (mod-eq_of_lt block) in
      let out : get_or flags (max_clients + 1 + i) false ≡ false =
      sym (flag_embargoed flags i (omega (arith, client, p.clients))) ∙ tests.1.1.1.0 in
      let known : knows flags i ≡ true = known_running flags i out tests.1.1.1.1.0 in
      let was : get_or a₀.dirty (cell i f b) false ≡ true = not-false (get_or a₀.dirty (cell i f b) false) tests.1.1.1.1.1.0 in
      let used : used_held (set flags (state_flags + at) true) ≡ set (used_held flags) (place f b) true =
      used_set flags at true ∙ ap (λ (k : ℕ). set (used_held flags) k true) there in
      let clean : a.dirty ≡ set a₀.dirty (cell i f b) false = ap (λ (s : Service). s.dirty) done in
      let counts : counted_on sizes (knows flags) (used_held flags) a₀.dirty f
      ≡ counted_on sizes (knows flags) (set (used_held flags) (place f b) true) (set a₀.dirty (cell i f b) false) f =
      count_cong sizes.blocks
      (is_counted sizes.clients (knows flags) (used_held flags) a₀.dirty f)
      (is_counted sizes.clients (knows flags) (set (used_held flags) (place f b) true) (set a₀.dirty (cell i f b) false) f)
      (λ c h.
      split (eqb c b)
      (λ q.
      subst⁻¹
      (λ (k : ℕ).
      is_counted sizes.clients (knows flags) (used_held flags) a₀.dirty f k
      ≡ is_counted sizes.clients (knows flags) (set (used_held flags) (place f b) true) (set a₀.dirty (cell i f b) false) f k)
      (eqb-true c b q)
      (or_right (get_or (used_held flags) (place f b) false) (dirty_among sizes.clients (knows flags) a₀.dirty f b)
      (dirty_there sizes.clients (knows flags) a₀.dirty i f b client known was)
      ∙ sym (or_left (get_or (set (used_held flags) (place f b) true) (place f b) false)
      (dirty_among sizes.clients (knows flags) (set a₀.dirty (cell i f b) false) f b)
      (used_there (used_held flags) f b (length_used flags size) file block))))
      (λ q.
      let off : c ≡ b → ⊥ = eqb-false c b q in
      ap₂ (λ (u d : Bool). u || d)
      (sym (used_beside (used_held flags) f b c true off))
      (sym (dirty_beside sizes.clients (knows flags) a₀.dirty i f b false c (omega (arith, h, p.blocks)) block off)))) in
      spends m p f (λ s s'. refl) flush_alike t (set flags (state_flags + at) true) e
      (record {
        long = refl;
        flags_long = length-set flags (state_flags + at) true;
        words = λ g k there below. refl;
        state = state_kept flags at true;
      })
      (λ given force. used)
      (free_stays m p flush_free
      ∙ sym (recounted_same sizes.store (free_held t₀)
      (counted_on sizes (knows flags) (used_held flags) a₀.dirty f)
      (counted_on sizes (knows flags) (used_held (set flags (state_flags + at) true)) a.dirty f)
      (counts ∙ ap₂ (λ (u d : List Bool). counted_on sizes (knows flags) u d f) (sym used) (sym clean))))

-- ---- an answer

-- how many blocks it sent, as its reply tells
sent_none : (r : Reply) → is_refused r ≡ true → sent_in r ≡ 0
sent_none (Granted g) e = conflict e refl
sent_none Waiting e = conflict e refl
sent_none (Value v) e = conflict e refl
sent_none (Refused k) e = refl
sent_none (Answered n) e = conflict e refl
sent_none (AnsweredGrant n j g) e = conflict e refl
sent_none Done e = conflict e refl

sent_told :
    (z : Sizes) (s : Service) (i f : ℕ)
    → sent_in (done_of z s (Answer i f)).reply
    ≡ sent_blocks z.blocks (call_to z.clients (entry_at s f) i) i f (stores_of s)
sent_told z s i f =
    let o : FileAfter = answered z f (file_at s f) (stores_of s) i (call_to z.clients (entry_at s f) i) in
    either
    (λ (o : FileAfter).
    sent_in o.reply ≡ sent_blocks z.blocks (call_to z.clients (entry_at s f) i) i f (stores_of s))
    (eqb (calls_out z.clients o.file.entry) 0)
    (λ e. refl)
    (λ e. refl)

-- there are as many flags as before, whether some were marked or not
pub length_sent :
    (some : Bool) (n to : ℕ) (own flags flags' : List Bool)
    → flags' ≡ cond some (marked n to own flags) flags
    → length flags ≡ lent_flags
    → length flags' ≡ lent_flags
length_sent true n to own flags flags' is size = ap length is ∙ length_marked n to own flags ∙ size
length_sent false n to own flags flags' is size = ap length is ∙ size

-- the blocks that it sends are used; where it sends none, none is
module _ (n to base : ℕ) (sends : Bool) (used dirty own : List Bool) where
  abbrev used_by : List Bool
  used_by = stored n (λ b. to + b) (λ b. get_or used (to + b) false || (sends && get_or dirty (base + b) false)) used

  abbrev sent_number : ℕ
  sent_number = cond sends (count n (λ b. get_or dirty (base + b) false)) 0

  used_some :
      ltb 0 sent_number ≡ true
      → ((b : ℕ) → b < n → get_or own b false ≡ get_or dirty (base + b) false)
      → stored n (λ b. to + b) (λ b. get_or used (to + b) false || get_or own b false) used ≡ used_by
  used_some some is =
      split sends
      (λ yes.
      stored_agree n (λ b. to + b) (λ b. get_or used (to + b) false || get_or own b false)
      (λ b. get_or used (to + b) false || (sends && get_or dirty (base + b) false)) used
      (λ b h.
      ap (λ (x : Bool). get_or used (to + b) false || x)
      (is b h ∙ sym (ap (λ (x : Bool). x && get_or dirty (base + b) false) yes))))
      (λ no.
      conflict some (ap (λ (x : Bool). ltb 0 (cond x (count n (λ b. get_or dirty (base + b) false)) 0)) no))

  used_none : ltb 0 sent_number ≡ false → used_by ≡ used
  used_none none =
      stored_same n (λ b. to + b) (λ b. get_or used (to + b) false || (sends && get_or dirty (base + b) false)) used false
      (λ b h. ap (λ (x : Bool). get_or used (to + b) false || x) (unsent b h) ∙ or-false (get_or used (to + b) false))
    where
      or-false : (x : Bool) → (x || false) ≡ x
      or-false true = refl
      or-false false = refl

      unsent : (b : ℕ) → b < n → (sends && get_or dirty (base + b) false) ≡ false
      unsent b h =
          split sends
          (λ yes.
          ap (λ (x : Bool). x && get_or dirty (base + b) false) yes
          ∙ count_none n (λ b. get_or dirty (base + b) false)
          (ap (λ (x : Bool). ltb 0 (cond x (count n (λ b. get_or dirty (base + b) false)) 0)) (sym yes) ∙ none) b h)
          (λ no. ap (λ (x : Bool). x && get_or dirty (base + b) false) no)

module _
    {sizes : Sizes}
    {i f : ℕ}
    {t₀ t : List ℕ}
    {flags : List Bool}
    {a₀ a : Stores}
    {reply : Reply}
    {calls : List ℕ}
    (p : Permitted sizes)
    (long : length t₀ ≡ table_words)
    (m : Moves false false sizes (Answer i f) t₀ flags a₀ t flags a reply calls) where
  answer_alike : Alike false false sizes (Answer i f) t₀ flags a₀
  unfolding moved
  answer_alike given force = refl

  answer_free : LeavesFree (Answer i f)
  unfolding moved
  answer_free takes full s = refl

  module _
      (own : List Bool)
      (c c' : ℕ)
      (t' : List ℕ)
      (flags' : List Bool)
      (is_own : own ≡ listed max_blocks (λ b. get_or a₀.dirty (first_cell (i % max_clients) (f % max_files) + b) false))
      (bits : flags' ≡ cond (ltb 0 (sent_in reply)) (marked sizes.blocks (first_place (f % max_files)) own flags) flags)
      (was : c ≡ counted_on sizes (knows flags) (used_held flags) a₀.dirty (f % max_files))
      (is : c' ≡ counted_on sizes (knows flags') (used_held flags') a.dirty (f % max_files))
      (put : t' ≡ set t table_rows (recounted sizes.store (free_held t) c c')) where
    answer-refused : is_refused reply ≡ true → Serves sizes (Answer i f) t₀ flags a₀ t' flags' a reply calls
    answer-refused e =
        let rests : flags' ≡ flags =
        bits
        ∙ ap (λ (n : ℕ). cond (ltb 0 n) (marked sizes.blocks (first_place (f % max_files)) own flags) flags) (sent_none reply e) in
        let same : c ≡ c' =
        was
        ∙ ap₂ (λ (l d : List Bool). counted_on sizes (knows l) (used_held l) d (f % max_files)) (sym rests) (sym (dirty_rests m p e))
        ∙ sym is in
        subst⁻¹ (λ (w : List ℕ). Serves sizes (Answer i f) t₀ flags a₀ w flags' a reply calls)
        (put ∙ recount_rests sizes.store t c c' same)
        (subst⁻¹ (λ (l : List Bool). Serves sizes (Answer i f) t₀ flags a₀ t l a reply calls) rests
        (serves-refused m answer_alike e))

    answer_kept : Keeping t flags t flags'
    answer_kept =
        subst⁻¹ (λ (l : List Bool). Keeping t flags t l) bits
        (split (ltb 0 (sent_in reply))
        (λ q.
        rw q
        (record {
          long = refl;
          flags_long = length_marked sizes.blocks (first_place (f % max_files)) own flags;
          words = λ g k there below. refl;
          state = state_marked sizes.blocks (first_place (f % max_files)) own flags;
        }))
        (λ q. rw q (all_kept t flags)))

    module _ (e : is_refused reply ≡ false) where
      abbrev asker : Service
      asker = service_held sizes t₀ flags a₀

      abbrev sends : Bool
      sends = writes_back (call_to sizes.clients (entry_at asker f) i)

      answerer : i < max_clients
      answerer = let (tests, done, same) = did m p e in omega (arith, leb-false sizes.clients i tests.0, p.clients)

      asked-file : f < max_files
      asked-file = let (tests, done, same) = did m p e in omega (arith, leb-false sizes.files f tests.1.0, p.files)

      sent_is :
          sent_in reply
          ≡ sent_number sizes.blocks (first_place f) (first_cell i f) sends (used_held flags) a₀.dirty own
      sent_is = let (tests, done, same) = did m p e in ap sent_in same ∙ sent_told sizes asker i f

      own_is : (b : ℕ) → b < sizes.blocks → get_or own b false ≡ get_or a₀.dirty (first_cell i f + b) false
      own_is b h =
          ap (λ (l : List Bool). get_or l b false) is_own
          ∙ get_d_listed max_blocks (λ b. get_or a₀.dirty (first_cell (i % max_clients) (f % max_files) + b) false) false b
          (omega (arith, h, p.blocks))
          ∙ ap₂ (λ (j g : ℕ). get_or a₀.dirty (first_cell j g + b) false) (mod-eq_of_lt answerer) (mod-eq_of_lt asked-file)

      used-answered :
          used_held flags' ≡ used_by sizes.blocks (first_place f) (first_cell i f) sends (used_held flags) a₀.dirty own
      used-answered =
          ap used_held bits
          ∙ split (ltb 0 (sent_in reply))
          (λ q.
          ap (λ (x : Bool). used_held (cond x (marked sizes.blocks (first_place (f % max_files)) own flags) flags)) q
          ∙ ap (λ (g : ℕ). used_held (marked sizes.blocks (first_place g) own flags)) (mod-eq_of_lt asked-file)
          ∙ used_marked sizes.blocks (first_place f) own flags
          ∙ used_some sizes.blocks (first_place f) (first_cell i f) sends (used_held flags) a₀.dirty own
          (ap (ltb 0) (sym sent_is) ∙ q) own_is)
          (λ q.
          ap (λ (x : Bool). used_held (cond x (marked sizes.blocks (first_place (f % max_files)) own flags) flags)) q
          ∙ sym (used_none sizes.blocks (first_place f) (first_cell i f) sends (used_held flags) a₀.dirty own
          (ap (ltb 0) (sym sent_is) ∙ q)))

      answer-done : Serves sizes (Answer i f) t₀ flags a₀ t' flags' a reply calls
      answer-done =
          let here : f % max_files ≡ f = mod-eq_of_lt asked-file in
          let state : take state_flags flags' ≡ take state_flags flags = answer_kept.state in
          let now : c' ≡ counted_on sizes (knows flags) (used_held flags') a.dirty f =
          is
          ∙ ap (counted_on sizes (knows flags') (used_held flags') a.dirty) here
          ∙ counted_by_lem sizes (knows flags') (knows flags) (used_held flags') a.dirty f
          (λ j h. known_kept flags flags' j state (omega (arith, h, p.clients))) in
          subst⁻¹ (λ (w : List ℕ). Serves sizes (Answer i f) t₀ flags a₀ w flags' a reply calls) put
          (spends m p f (λ s s'. refl) answer_alike (set t table_rows (recounted sizes.store (free_held t) c c')) flags' e
          (word_kept t flags flags' (recounted sizes.store (free_held t) c c') answer_kept)
          (λ given force.
          used-answered
          ∙ ap
          (λ (z : Sizes).
          used_by z.blocks (first_place f) (first_cell i f) (writes_back (call_to z.clients (entry_at asker f) i)) (used_held flags)
          a₀.dirty own)
          force)
          (free_set t (recounted sizes.store (free_held t) c c') (m.long ∙ long)
          ∙ ap (λ (n : ℕ). recounted sizes.store n c c') (free_stays m p answer_free)
          ∙ ap₂ (λ (k k' : ℕ). recounted sizes.store (free_held t₀) k k')
          (was ∙ ap (counted_on sizes (knows flags) (used_held flags) a₀.dirty) here)
          now))

    pub answer-serves : Serves sizes (Answer i f) t₀ flags a₀ t' flags' a reply calls
    answer-serves = split (is_refused reply) answer-refused answer-done
