use Rattle.std.proofs.Common.{◌++◌, ap, ◌∙◌, rules}
use Rattle.stage_chain.proofs.LeftLemmas.{IsCopied, copy_kept, copy_gone}
use Rattle.stage_chain.proofs.left.Left.change_record.Goals as goal

pub returns-in_ok-push : goal.returns-in_ok-push
returns-in_ok-push c = λ places a.
    (let at = c.len-at.result in
    let old = c.args.self.now.octets.items in
    let longer = c.extend_from_slice.new.self.items in
    let now = c.change_last.new.octets.items in
    let copied : IsCopied c.args.octets.now c.args.place at c.in-Ok.start old longer now = record {
      inside = c.requires.is_record.0;
      at_is = search rules;
      start_is = search rules;
      longer_is = c.in_ok-extend_from_slice.ensures.items ∙ ap (λ l. old ++ l) c.octets_at.ensures;
      front = c.change_last.ensures.front;
      long = c.change_last.ensures.long;
    } in
    copy_kept c.args.stages.now c.args.def.now c.args.octets.now places c.args.place at c.in-Ok.start old longer now c.args.self.now.places.items c.push.new.self.items copied c.if-change_last.ensures.left
    c.if-change_last.ensures.is_record c.in_ok-push.ensures.items a)

pub returns-else-change_last : goal.returns-else-change_last
returns-else-change_last c = λ places a.
    (let at = c.len-at.result in
    let old = c.args.self.now.octets.items in
    let longer = c.extend_from_slice.new.self.items in
    let now = c.change_last.new.octets.items in
    let copied : IsCopied c.args.octets.now c.args.place at c.in-Ok.start old longer now = record {
      inside = c.requires.is_record.0;
      at_is = search rules;
      start_is = search rules;
      longer_is = c.in_ok-extend_from_slice.ensures.items ∙ ap (λ l. old ++ l) c.octets_at.ensures;
      front = c.change_last.ensures.front;
      long = c.change_last.ensures.long;
    } in
    copy_gone c.args.stages.now c.args.def.now c.args.octets.now places c.args.place at c.in-Ok.start old longer now c.truncate.new.self.items c.args.self.now.places.items copied c.if-change_last.ensures.left
    c.truncate.ensures.items a)
