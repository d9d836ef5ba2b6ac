-- `tell_setting` meets its contract: the arrays hold the service after the setting, and its text is written. Assumes
-- nothing.
use Rattle.explaining.proofs.Explaining.{set_told}
use Rattle.explaining.proofs.tell.tell_setting.Goals as goal

pub returns : goal.returns
returns c =
    let a = c.args in
    record {
      tells_line = λ fresh l line set.
          set_told fresh _ a.number line a.setting set l _ c.reply_to-reply.result a.refusals.now _ a.out.now a.at _
          c.explain_setting.result c.choose_sizes-chosen.ensures (c.reply_to-reply.ensures _)
          (c.explain_setting.ensures.wrote_if_room _ _ _ c.say-said.ensures.says) c.explain_setting.ensures.upper_bound
          c.count_refusal.ensures;
    }
