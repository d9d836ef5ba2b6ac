-- `say` meets its contract, reply by reply. Assumes nothing.
use Prim.Native.Nat.{◌%◌, ◌<◌}
use mathlib.Core.Path.{refl, ap, ◌∙◌}
use mathlib.Core.List.{[], ◌∷◌}
use native.Mathlib.Nat.{mod-eq_of_lt}
use native.Mathlib.Omega.{arith}
use Rattle.protocol.specs.declared.reply.Reply.TheVariants.{Granted, Value, Refused, Answered}
use Rattle.words.proofs.SaidWords.{begun_none, begun_next, second_as, says_values, says_calls, says_as}
use Rattle.words.proofs.SaidWords.{first_back, answer_back, none_done, none_answered, none_further}
use Rattle.words.proofs.saying.say.Goals as goal

pub returns-in-Granted : goal.returns-in-Granted
returns-in-Granted c =
    let a = c.args in
    let w = a.words.now in
    let said = c.say_grant.ensures in
    says_as _ _ _ _ _ _ _ c.in-Granted.is
    (says_values _ 3 w _ _ _ a.calls refl refl refl (omega arith) refl (said.by_index w [] (begun_none w))
    (ap Granted said.at_after) refl)

pub returns-in-Waiting : goal.returns-in-Waiting
returns-in-Waiting c =
    says_as _ _ _ _ _ _ _ c.in-Waiting.is (says_calls c.args.words.now _ c.args.calls c.requires c.calls_word.ensures)

pub returns-in-Value : goal.returns-in-Value
returns-in-Value c =
    let a = c.args in
    let w = a.words.now in
    says_as _ _ _ _ _ _ _ c.in-Value.is
    (says_values _ 1 w _ _ _ a.calls refl refl refl (omega arith) refl
    (begun_next w [] w 0 _ (omega (arith, c.requires)) (begun_none w))
    (ap Value (first_back w _ (omega (arith, c.requires)))) refl)

pub returns-in-Refused : goal.returns-in-Refused
returns-in-Refused c =
    let a = c.args in
    let w = a.words.now in
    let small : c.from.result < 256 = omega arith in
    says_as _ _ _ _ _ _ _ c.in-Refused.is
    (says_values _ 1 w _ _ _ a.calls refl refl refl (omega arith)
    (ap (λ x. x ∷ []) c.from.ensures)
    (begun_next w [] w 0 _ (omega (arith, c.requires)) (begun_none w))
    (ap Refused (ap (λ x. x % 256) (first_back w _ (omega (arith, c.requires))) ∙ mod-eq_of_lt small ∙ c.from.ensures)) refl)

pub returns-in-Answered : goal.returns-in-Answered
returns-in-Answered c =
    let a = c.args in
    let w = a.words.now in
    let one = begun_next w [] w 0 _ (omega (arith, c.requires)) (begun_none w) in
    says_as _ _ _ _ _ _ _ c.in-Answered.is
    (says_values _ 1 w _ _ _ a.calls refl refl refl (omega arith) refl one
    (ap Answered (first_back w _ (omega (arith, c.requires)))) (none_answered one))

pub returns-in-AnsweredGrant : goal.returns-in-AnsweredGrant
returns-in-AnsweredGrant c =
    let a = c.args in
    let w = a.words.now in
    let opener = c.from-in-AnsweredGrant.ensures in
    let small : c.from-in-AnsweredGrant.result < 256 = omega arith in
    let said = c.say_grant-in-AnsweredGrant.ensures in
    let five = said.by_index w _ c.say_two.ensures in
    says_as _ _ _ _ _ _ _ c.in-AnsweredGrant.is
    (says_values _ 5 w _ _ _ a.calls refl refl refl (omega arith) (second_as _ _ _ _ opener) five
    (answer_back w _ _ _ _ _ five opener small said.at_after) (none_further five))

pub returns-in-Done : goal.returns-in-Done
returns-in-Done c =
    let a = c.args in
    let w = a.words.now in
    says_as _ _ _ _ _ _ _ c.in-Done.is
    (says_values _ 0 w [] w _ a.calls refl refl refl (omega arith) refl (begun_none w) refl (none_done w))
