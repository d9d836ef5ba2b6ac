-- An answer that is done, as the step's definition has it. Assumes nothing.
use Prim.Native.Nat.{ℕ, ◌<◌}
use mathlib.Core.Path.{◌≡◌, sym, ◌∙◌}
use mathlib.Core.Bool.{Bool}
use native.Mathlib.Omega.{arith}
use lib.Dec.{eqb}
use Rattle.std.specs.Prelude.{⊤, Ok}
use Rattle.std.specs.declared.result.Result.{Result}
use Rattle.sizes.specs.declared.sizes.Sizes.{Sizes}
use Rattle.decision.specs.Lists.{first_of}
use Rattle.protocol.specs.declared.refusal.Refusal.{Refusal}
use Rattle.protocol.specs.declared.reply.Reply.TheVariants.{Answered}
use Rattle.protocol.specs.declared.shared.SharedFile.{SharedFile}
use Rattle.protocol.specs.declared.step.Step.TheVariants.{Answer}
use Rattle.protocol.specs.Entry.{call_to}
use Rattle.protocol.specs.Refusal.{answer_tests}
use Rattle.protocol.specs.Refused.{refusal_in}
use Rattle.protocol.proofs.Tested.{passed, named}
use Rattle.blocks.specs.declared.stores.Stores.{Stores}
use Rattle.blocks.specs.Stores.{sent_blocks}
use Rattle.file.specs.FileStep.{leaving, answered, granted_if_last, after_answer, file_step}
use Rattle.file.proofs.LastAnswer.{someone_waits}
use Rattle.file.proofs.Taking.{answer_step, accepted}

module _ (z : Sizes) (embargoed recovering : Bool) (x : SharedFile) (a : Stores) (i f : ℕ) where
  pub waiter-there :
      (k : ℕ) → k ≡ first_of (answer_tests z embargoed recovering x.entry i f) → k ≡ 0 → x.entry.waiter < z.clients
  waiter-there k tests none =
      let (_, _, free) = named z i f k _ tests none in
      let (_, running) = passed embargoed 20 _ (λ e. omega arith) free in
      let (_, called) = passed recovering 5 _ (λ e. omega arith) running in
      let (kind, _) = passed (eqb (call_to z.clients x.entry i) 0) 10 0 (λ e. omega arith) called in
      someone_waits z.clients x.entry i kind

  -- x' and a' are what the callback's answer leaves, before any grant; `sent` blocks went to the server
  pub answer-done :
      {r : Result ⊤ Refusal}
      {u : ⊤}
      → refusal_in r ≡ first_of (answer_tests z embargoed recovering x.entry i f)
      → r ≡ Ok u
      → (kind sent : ℕ) (x' : SharedFile) (a' : Stores)
      → kind ≡ call_to z.clients x.entry i
      → x' ≡ (answered z f x a i kind).file
      → a' ≡ (answered z f x a i kind).stores
      → sent ≡ sent_blocks z.blocks kind i f a
      → file_step z embargoed recovering x a (Answer i f) ≡ granted_if_last z f sent (leaving x' a' (Answered sent))
  answer-done tests done kind sent x' a' is same_file same_stores told =
      accepted (answer_tests z embargoed recovering x.entry i f) x a (after_answer z x a i f)
      (answer_step z embargoed recovering x a i f) tests done
      ∙ (λ k. let called = sym is k in granted_if_last z f (sent_blocks z.blocks called i f a) (answered z f x a i called))
      ∙ (λ k. granted_if_last z f (sym told k) (leaving (sym same_file k) (sym same_stores k) (Answered (sym told k))))
