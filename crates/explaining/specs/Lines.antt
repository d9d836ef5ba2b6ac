-- The lines of a buffer, explained on the service that lent arrays hold and what is noted beside it. The Bool `fresh`
-- says whether the session began with the fresh service: a first line may choose its sizes then.
use Rattle.std.specs.Prelude.{ℕ, ◌+◌, ◌≤◌, ◌≡◌, Bool, false, cond, ◌&&◌, List, eqb, length, drop, Option, Err}
use Rattle.sizes.specs.declared.sizes.Sizes.{Sizes}
use Rattle.blocks.specs.declared.stores.Stores.{Stores}
use Rattle.service.specs.Lent.{service_held}
use Rattle.stepfile.specs.declared.setting.NoSizes.TheVariants.{Missing}
use Rattle.stepfile.specs.Setting.{setting_of, Setting}
use Rattle.writer.specs.Buffer.{WroteIfRoom}
use Rattle.ledger.specs.declared.annotated.Annotated.{Annotated}
use Rattle.ledger.specs.declared.ledger.Ledger.{Ledger}
use Rattle.ledger.specs.Annotated.{annotated_by, annotated_after}
use Rattle.sentences.specs.Explained.{explained_line, explained_by, explained_room}
use Rattle.picture.specs.Picture.{picture_text, picture_room}
use Rattle.telling.specs.Lines.{Telling, Reach, Tells, can_tell}
use Rattle.telling.specs.Reached.{Reached}
use Rattle.playing.specs.Lines.{chooses_sizes, reach_with}
use Rattle.playing.specs.declared.lines.Progress.{Progress}
use Rattle.protocol.specs.declared.step.Step.{Step}

-- a line is explained by what `play` prints for it and a sentence, and the end by the picture
abbrev pub explaining : Bool → Telling Annotated
explaining fresh =
    record {
      say = explained_line fresh;
      next = annotated_after fresh;
      room = explained_room;
      close = picture_text;
      close_room = picture_room;
    }

-- the service that the arrays hold, with the ledger and the counts of refusals beside it
abbrev pub state_held : Sizes → List ℕ → List Bool → Stores → Ledger → List ℕ → Annotated
state_held z t flags a l refusals = record { service = service_held z t flags a; ledger = l; refusals = refusals }

-- what line l, numbered n, sets: only the first may, in a session that began with the fresh service
abbrev pub setting_at : Bool → ℕ → List ℕ → Setting
setting_at fresh n l = cond (fresh && eqb n 1) (setting_of l) (Err Missing)

-- Line l, numbered n, which gives p, is told from the state s: s' is the state after it, and its text is written from
-- the offset on, if there is room.
pub record TellsLine
    (fresh : Bool) (s : Annotated) (n : ℕ) (l : List ℕ) (p : Option Step) (out₀ : List ℕ) (at : ℕ) (s' : Annotated)
    (out : List ℕ) (at' : ℕ) : Type 0 where
  pub next : s' ≡ annotated_by fresh s n l p
  pub wrote : WroteIfRoom explained_room out₀ at (explained_by fresh s n l p) out at'
  pub most : at' ≤ at + explained_room

-- how far it went, with the state that the arrays hold then
abbrev pub reach_held : Progress → List ℕ → List Bool → Stores → Ledger → List ℕ → Reach Annotated
reach_held p t flags a l refusals = reach_with p (state_held p.sizes t flags a l refusals)

-- The lines of an input are explained, the first of them numbered n: what is told of them from the state that the
-- arrays held is in the output buffer, and the arrays hold the state after them.
pub record Explains
    (fresh : Bool) (z : Sizes) (n : ℕ) (input out₀ t₀ : List ℕ) (flags₀ : List Bool) (a₀ : Stores) (l₀ : Ledger)
    (refusals₀ : List ℕ) (p : Progress) (out t : List ℕ) (flags : List Bool) (a : Stores) (l : Ledger)
    (refusals : List ℕ) : Type 0 where
  pub tells :
      Tells (explaining fresh) (state_held z t₀ flags₀ a₀ l₀ refusals₀) n input out₀ (reach_held p t flags a l refusals) out

-- An input begins with a line that chooses the sizes, and it is told, or nothing is: no line that can be told next
-- chooses them. The ledger notes nothing of it.
pub record Begins
    (fresh : Bool) (z : Sizes) (n : ℕ) (input out₀ t₀ : List ℕ) (flags₀ : List Bool) (a₀ : Stores) (l : Ledger)
    (refusals₀ : List ℕ) (p : Progress) (out t : List ℕ) (flags : List Bool) (a : Stores) (refusals : List ℕ)
    : Type 0 where
  pub reached :
      Reached (explaining fresh) (state_held z t₀ flags₀ a₀ l refusals₀) n input out₀
      (state_held p.sizes t flags a l refusals) p.number p.used p.written out
  pub chosen :
      (chooses_sizes fresh p.number (drop p.used input)
      && can_tell explained_room (length out) p.written p.number)
      ≡ false
