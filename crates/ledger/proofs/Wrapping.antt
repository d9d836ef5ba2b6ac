-- Wrapped numbers make no difference: a refused step notes nothing, and an accepted one names what there is. So what
-- `note_line` makes of the arrays is the ledger after the line, and what `read_told` tells of an accepted read is
-- what the definition tells. Assumes nothing.
use Prim.Native.Nat.{ℕ, ◌%◌}
use native.Mathlib.Nat.{mod-eq_of_lt}
use mathlib.Core.Path.{◌≡◌, refl, sym, ap, ◌∙◌}
use mathlib.Core.Bool.{Bool, true, false}
use Rattle.sizes.specs.Sizes.{max_clients, max_files, max_blocks}
use Rattle.sizes.proofs.InForce.{in_force_permitted, client_fits, file_fits, block_fits}
use Rattle.protocol.specs.declared.reply.Reply.{Reply}
use Rattle.protocol.specs.declared.step.Step.{Step}
use Rattle.protocol.specs.declared.step.Step.TheVariants.{Open, Close, Read, Write, Flush, Answer, Crash, Report, End}
use Rattle.protocol.specs.declared.step.Step.TheVariants.{Restart, Embargo, Lift}
use Rattle.protocol.specs.Reply.{is_refused}
use Rattle.protocol.specs.Step.{class_of, client_of, file_of, block_of, renamed}
use Rattle.service.specs.declared.service.Service.{Service}
use Rattle.blocks.specs.Stores.{held_in}
use Rattle.service.specs.Contents.{sizes_of, stores_of, client_at}
use Rattle.service.specs.Step.{step_of}
use Rattle.service.specs.Lent.{may_report}
use Rattle.service.specs.Demand3.{refused}
use Rattle.service.proofs.Tests.{split, conflict}
use Rattle.ledger.specs.declared.ledger.Ledger.{Ledger}
use Rattle.ledger.specs.Ledger.{is_waiting, noted, may_cache, holds_block, is_aside, ledger_after, told_of, step_told}
use Rattle.ledger.specs.Wrapped.{wrapped_step}
use Rattle.ledger.proofs.Entries.{accepted_reply, There, names_there}

refused_noted :
    (n : ℕ) (x : Step) (reply : Reply) (caching held aside : Bool) (l : Ledger)
    → is_refused reply ≡ true
    → noted n x reply caching held aside l ≡ l
refused_noted n (Open m i f) reply caching held aside l e =
    let waits-not : is_waiting reply ≡ false =
    split (is_waiting reply) (λ w. conflict e (accepted_reply reply w)) (λ w. w) in
    rw waits-not
refused_noted n (Close m i f) reply caching held aside l e = refl
refused_noted n (Read i f b) reply caching held aside l e = rw e
refused_noted n (Write i f b v) reply caching held aside l e = rw e
refused_noted n (Flush i f b) reply caching held aside l e = rw e
refused_noted n (Answer i f) reply caching held aside l e = rw e
refused_noted n Crash reply caching held aside l e = refl
refused_noted n (Report i) reply caching held aside l e = refl
refused_noted n End reply caching held aside l e = refl
refused_noted n (Restart i) reply caching held aside l e = rw e
refused_noted n (Embargo i f) reply caching held aside l e = rw e
refused_noted n (Lift i) reply caching held aside l e = rw e

-- only of a write it is noted that its client is under embargo; who is, no step on a block changes
aside_noted :
    (n : ℕ) (x : Step) (reply : Reply) (caching held aside aside' : Bool) (l : Ledger)
    → (may_report (class_of x) ≡ false → aside ≡ aside')
    → noted n x reply caching held aside l ≡ noted n x reply caching held aside' l
aside_noted n (Open m i f) reply caching held aside aside' l e = refl
aside_noted n (Close m i f) reply caching held aside aside' l e = refl
aside_noted n (Read i f b) reply caching held aside aside' l e = refl
aside_noted n (Write i f b v) reply caching held aside aside' l e =
    ap (λ t. noted n (Write i f b v) reply caching held t l) (e refl)
aside_noted n (Flush i f b) reply caching held aside aside' l e = refl
aside_noted n (Answer i f) reply caching held aside aside' l e = refl
aside_noted n Crash reply caching held aside aside' l e = refl
aside_noted n (Report i) reply caching held aside aside' l e = refl
aside_noted n End reply caching held aside aside' l e = refl
aside_noted n (Restart i) reply caching held aside aside' l e = refl
aside_noted n (Embargo i f) reply caching held aside aside' l e = refl
aside_noted n (Lift i) reply caching held aside aside' l e = refl

renamed_same :
    (client file block : ℕ → ℕ) (x : Step)
    → client (client_of x) ≡ client_of x
    → file (file_of x) ≡ file_of x
    → block (block_of x) ≡ block_of x
    → renamed client file block x ≡ x
renamed_same client file block (Open m i f) ci cf cb = rw (ci, cf)
renamed_same client file block (Close m i f) ci cf cb = rw (ci, cf)
renamed_same client file block (Read i f b) ci cf cb = rw (ci, cf, cb)
renamed_same client file block (Write i f b v) ci cf cb = rw (ci, cf, cb)
renamed_same client file block (Flush i f b) ci cf cb = rw (ci, cf, cb)
renamed_same client file block (Answer i f) ci cf cb = rw (ci, cf)
renamed_same client file block Crash ci cf cb = refl
renamed_same client file block (Report i) ci cf cb = rw ci
renamed_same client file block End ci cf cb = refl
renamed_same client file block (Restart i) ci cf cb = rw ci
renamed_same client file block (Embargo i f) ci cf cb = rw (ci, cf)
renamed_same client file block (Lift i) ci cf cb = rw ci

module _ (s : Service) (x : Step) where
  -- an accepted step: the wrapped numbers are its own
  module _ (a : refused s x ≡ false) where
    there : There (sizes_of s) x
    there = names_there (in_force_permitted s.sizes) s refl x a

    same_client : client_of x % max_clients ≡ client_of x
    same_client = mod-eq_of_lt (client_fits (in_force_permitted s.sizes) there.0)

    same_file : file_of x % max_files ≡ file_of x
    same_file = mod-eq_of_lt (file_fits (in_force_permitted s.sizes) there.1)

    same_block : block_of x % max_blocks ≡ block_of x
    same_block = mod-eq_of_lt (block_fits (in_force_permitted s.sizes) there.2)

    wrapped_same : wrapped_step x ≡ x
    wrapped_same =
        renamed_same (λ i. i % max_clients) (λ f. f % max_files) (λ b. b % max_blocks) x same_client same_file same_block

    -- what the code finds of its client at the wrapped places, and tells of its block
    pub found-there : (l : Ledger)
        → (let i = client_of x % max_clients in
        let f = file_of x % max_files in
        let b = block_of x % max_blocks in
        let caching = (client_at s i f).opens.caching in
        (told_of caching (stores_of s) l i f b ≡ step_told s l x)
        × (caching ≡ may_cache s x)
        × (held_in (stores_of s) i f b ≡ holds_block s x))
    found-there l = rw (same_client, same_file, same_block) (refl, refl, refl)

  -- what the code notes of a step, with what it found of the client at the wrapped places
  pub noted_wrapped :
      (n : ℕ) (caching held aside : Bool) (l : Ledger)
      → (refused s x ≡ false → (caching ≡ may_cache s x) × (held ≡ holds_block s x))
      → (refused s x ≡ false → may_report (class_of x) ≡ false → aside ≡ is_aside s x)
      → noted n (wrapped_step x) (step_of s x).reply caching held aside l ≡ ledger_after n s x l
  unfolding ledger_after
  noted_wrapped n caching held aside l found set =
      let reply : Reply = (step_of s x).reply in
      split (refused s x)
      (λ e.
      refused_noted n (wrapped_step x) reply caching held aside l e
      ∙ sym (refused_noted n x reply (may_cache s x) (holds_block s x) (is_aside s x) l e))
      (λ e.
      let (may, holds) = found e in
      ap (λ y. noted n y reply caching held aside l) (wrapped_same e)
      ∙ ap (λ c. noted n x reply c held aside l) may
      ∙ ap (λ h. noted n x reply (may_cache s x) h aside l) holds
      ∙ aside_noted n x reply (may_cache s x) (holds_block s x) aside (is_aside s x) l (set e))
