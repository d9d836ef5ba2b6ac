-- A step that is served and said is taken. Assumes nothing.
use Prim.Native.Nat.{ℕ, ◌%◌}
use mathlib.Core.Path.{◌≡◌, refl, sym, ap, ◌∙◌, subst}
use mathlib.Core.Bool.{Bool, true, false}
use mathlib.Core.List.{List}
use Rattle.std.specs.Prelude.{Some, None}
use Rattle.sizes.specs.declared.sizes.Sizes.{Sizes}
use Rattle.sizes.specs.Sizes.{in_force}
use Rattle.sizes.proofs.Choosing.{split, conflict, when, unless}
use Rattle.protocol.specs.declared.reply.Reply.{Reply}
use Rattle.protocol.specs.declared.reply.Reply.TheVariants.{Refused}
use Rattle.protocol.specs.declared.reply.Granting.{Granting}
use Rattle.protocol.specs.Reply.{letter_of, no_calls, no_grants}
use Rattle.protocol.specs.declared.step.Step.{Step}
use Rattle.protocol.specs.Step.{Class}
use Rattle.protocol.specs.Step.{OnFile, OnBlock, OnTable, OnAll}
use Rattle.protocol.specs.Step.{class_of, on_all, is_on_all}
use Rattle.blocks.specs.declared.stores.Stores.{Stores}
use Rattle.words.specs.Said.{calls?, reply_said, calls_said, grants_said, SaysIn}
use Rattle.service.specs.declared.service.Service.{Service}
use Rattle.service.specs.declared.outcome.Outcome.{Outcome}
use Rattle.service.specs.Step.{step_of}
use Rattle.service.specs.Lent.{service_held, may_change, may_report, Keeps, Stepped}
use Rattle.service.specs.Served.{Serves, ServesAll}

-- the calls are read back: those that went out, or none
calls_back :
    (words₀ words : List ℕ) (said : ℕ) (reply : Reply) (calls : List ℕ) (grants : List Granting)
    → SaysIn words₀ said words reply calls grants
    → (calls? (letter_of reply) ≡ false → calls ≡ no_calls)
    → calls_said said words ≡ calls
calls_back words₀ words said reply calls grants s quiet =
    let same : calls? (said % 256) ≡ calls? (letter_of reply) = ap calls? s.says.letter in
    split (calls? (letter_of reply))
    (λ e. when _ _ (same ∙ e) ∙ s.says.called e)
    (λ e. unless _ _ (same ∙ e) ∙ sym (quiet e))

-- a class that is on all files
on_all_class : (c : Class) → on_all c ≡ true → c ≡ OnAll
on_all_class (OnFile f) on = conflict on refl
on_all_class (OnBlock i f) on = conflict on refl
on_all_class OnTable on = conflict on refl
on_all_class OnAll on = refl

module _ (given : Sizes) (t₀ : List ℕ) (flags₀ : List Bool) (a₀ : Stores) (words₀ : List ℕ) where
  abbrev came : Service
  came = service_held given t₀ flags₀ a₀

  -- where there is no step
  pub stepped_none :
      (words : List ℕ) (said : ℕ)
      → SaysIn words₀ said words (Refused 1) no_calls no_grants
      → Stepped given None t₀ flags₀ a₀ words₀ t₀ flags₀ a₀ words said
  stepped_none words said says =
      record {
        long = refl;
        flags_long = refl;
        words_long = says.long;
        short = says.short;
        service = refl;
        says = says;
        calls = calls_back words₀ words said (Refused 1) no_calls no_grants says (λ e. refl);
        keeps = (refl, refl);
      }

  -- a step on a file, on a block or on the table
  pub stepped_step :
      (x : Step) (sizes : Sizes) (t : List ℕ) (flags : List Bool) (a : Stores) (words : List ℕ) (said : ℕ) (reply : Reply)
      (calls : List ℕ)
      → sizes ≡ in_force given
      → Serves sizes x t₀ flags₀ a₀ t flags a reply calls
      → SaysIn words₀ said words reply calls no_grants
      → Stepped given (Some x) t₀ flags₀ a₀ words₀ t flags a words said
  stepped_step x sizes t flags a words said reply calls force serves says =
      let taken = serves.taken given force in
      record {
        long = serves.long;
        flags_long = serves.flags_long;
        words_long = says.long;
        short = says.short;
        service = ap (λ (o : Outcome). o.service) taken;
        says = subst (λ (o : Outcome). SaysIn words₀ said words o.reply o.calls o.grants) taken says;
        calls =
            calls_back words₀ words said reply calls no_grants says serves.quiet ∙ ap (λ (o : Outcome). o.calls) taken;
        keeps = subst (λ (o : Outcome). Keeps x o.reply t₀ flags₀ t flags) taken serves.keeps;
      }

  -- a step on all files
  pub stepped_all :
      (x : Step) (sizes : Sizes) (t : List ℕ) (flags : List Bool) (a : Stores) (words : List ℕ) (said : ℕ)
      → is_on_all x ≡ true
      → sizes ≡ in_force given
      → ServesAll sizes x t₀ flags₀ a₀ words₀ t flags a words said
      → Stepped given (Some x) t₀ flags₀ a₀ words₀ t flags a words said
  stepped_all x sizes t flags a words said on force serves =
      let o = step_of came x in
      let says = serves.says given force in
      let class = on_all_class (class_of x) on in
      record {
        long = serves.long;
        flags_long = serves.flags_long;
        words_long = says.long;
        short = says.short;
        service = serves.service given force;
        says = says;
        calls = calls_back words₀ words said o.reply o.calls o.grants says (λ e. serves.silent given force);
        keeps =
            record {
              refused = serves.refused given force;
              words = λ g k there below stays. conflict refl (ap (λ (c : Class). may_change c g k) (sym class) ∙ stays);
              reports = λ e. conflict refl (ap may_report (sym class) ∙ e);
            };
      }

-- what the arrays hold and what was said, read back, is the outcome of the step
pub stepped_outcome :
    (given : Sizes) (x : Step) (t₀ : List ℕ) (flags₀ : List Bool) (a₀ : Stores) (words₀ t : List ℕ)
    (flags : List Bool) (a : Stores) (words : List ℕ) (said : ℕ)
    → Stepped given (Some x) t₀ flags₀ a₀ words₀ t flags a words said
    → ◌≡◌ {A = Outcome}
    (record {
      service = service_held given t flags a;
      reply = reply_said said words;
      calls = calls_said said words;
      grants = grants_said said words;
    })
    (step_of (service_held given t₀ flags₀ a₀) x)
stepped_outcome given x t₀ flags₀ a₀ words₀ t flags a words said s =
    rw (s.service, s.says.says.back, s.calls, s.says.says.granted) refl
