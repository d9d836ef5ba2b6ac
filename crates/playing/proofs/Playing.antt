-- The player's next line, told by its outcome. Assumes nothing.
use Prim.Native.Nat.{ℕ, ◌+◌, ◌≤◌}
use mathlib.Core.Path.{◌≡◌, refl, sym, ap, ◌∙◌}
use mathlib.Core.Bool.{Bool, true, false, cond, ◌&&◌, true≢false}
use mathlib.Core.List.{List}
use lib.Dec.{eqb}
use lib.ListN.{length}
use Rattle.sizes.proofs.Choosing.{when}
use Rattle.service.specs.declared.service.Service.{Service}
use Rattle.service.specs.declared.outcome.Outcome.{Outcome}
use Rattle.service.specs.Lent.{outcome_of as outcome_given}
use Rattle.stepfile.specs.declared.setting.NoSizes.TheVariants.{OutOfRange, Missing}
use Rattle.stepfile.specs.Grammar.{parse_line}
use Rattle.stepfile.specs.Input.{read_at, line_of}
use Rattle.stepfile.specs.Line.{line_text}
use Rattle.stepfile.specs.Played.{refused_with, set_outcome, outcome_of, reply_line, service_after}
use Rattle.stepfile.specs.Setting.{setting_of, Setting}
use Rattle.reader.specs.FirstLine.{is_set}
use Rattle.writer.specs.Buffer.{WroteIfRoom, line_room}
use Rattle.telling.specs.Lines.{can_tell}
use Rattle.telling.proofs.Reaching.{line_bytes, line_bytes_lem}
use Rattle.telling.specs.Reached.{Reached}
use Rattle.telling.proofs.LineByLine.{one_more}
use Rattle.playing.specs.Lines.{playing}
use Rattle.protocol.specs.declared.step.Step.{Step}
use Rattle.std.proofs.Common.{Option, Some, None, Ok, Err}

-- what sets nothing is refused
unset : (s : Service) (x : Setting) → is_set x ≡ false → set_outcome s x ≡ refused_with s 1
unset s (Ok z) e = absurd (true≢false e)
unset s (Err OutOfRange) e = absurd (true≢false e)
unset s (Err Missing) e = refl

-- what a line gives has its outcome, but where it chooses the sizes
pub given_outcome :
    (settable : Bool) (s : Service) (number : ℕ) (l : List ℕ) (p : Option Step)
    → ((settable && eqb number 1) && is_set (setting_of l)) ≡ false
    → outcome_given s p ≡ outcome_of settable s number l p
given_outcome settable s number l (Some x) plain = refl
given_outcome settable s number l None plain = sym (none (settable && eqb number 1) plain)
  where
    none : (may : Bool) → (may && is_set (setting_of l)) ≡ false → cond may (set_outcome s (setting_of l)) (refused_with s 1) ≡ refused_with s 1
    none true e = unset s (setting_of l) e
    none false e = refl

-- a line that sets something comes to what it sets
pub set_outcome_lem :
    (settable : Bool) (s : Service) (number : ℕ) (l : List ℕ) (x : Setting)
    → (settable && eqb number 1) ≡ true → x ≡ setting_of l
    → set_outcome s x ≡ outcome_of settable s number l None
set_outcome_lem settable s number l x first is = ap (set_outcome s) is ∙ sym (when _ _ first)

-- the reply line of an outcome
abbrev pub told : ℕ → Outcome → List ℕ
told number o = line_text number o.reply o.calls o.grants

-- the line's outcome gives the service after it and its reply line
replied :
    (settable : Bool) (s : Service) (number : ℕ) (l : List ℕ) (p : Option Step) (o : Outcome)
    → parse_line l ≡ p
    → o ≡ outcome_of settable s number l p
    → (o.service ≡ (playing settable).next s number l) × (told number o ≡ (playing settable).say s number l)
unfolding reply_line service_after
replied settable s number l p o gives is =
    let fine : o ≡ outcome_of settable s number l (parse_line l) = is ∙ ap (outcome_of settable s number l) (sym gives) in
    (ap (λ (x : Outcome). x.service) fine, ap (told number) fine)

-- One line more: it was read, the service is that of its outcome, and its reply line was written.
pub line_played :
    (settable : Bool) (s₀ : Service) (first : ℕ) (input out₀ : List ℕ) (s : Service) (number used to : ℕ) (out₁ : List ℕ)
    (p : Option Step) (next : ℕ) (o : Outcome) (s' : Service) (to' : ℕ) (out₂ : List ℕ)
    → Reached (playing settable) s₀ first input out₀ s number used to out₁
    → read_at input used ≡ line_of p next
    → can_tell line_room (length out₁) to number ≡ true
    → o ≡ outcome_of settable s number (line_bytes input used next) p
    → s' ≡ o.service
    → WroteIfRoom line_room out₁ to (told number o) out₂ to'
    → to' ≤ to + line_room
    → Reached (playing settable) s₀ first input out₀ s' (number + 1) next to' out₂
line_played settable s₀ first input out₀ s number used to out₁ p next o s' to' out₂ w e can is goes wrote most =
    one_more (playing settable) s₀ first input out₀ s number used to out₁ p next s' (told number o) to' out₂ w e can
    (λ l at gives.
    let (after, says) =
    replied settable s number l p o gives (is ∙ ap (λ (x : List ℕ). outcome_of settable s number x p) (line_bytes_lem input used next l at)) in
    (goes ∙ after, says))
    wrote
    most
