use Rattle.std.proofs.Common.{◌≡◌, ◌+◌, List, [], ◌∷◌, ◌++◌, take, ap, sym, subst, ◌∙◌}
use Rattle.std.proofs.lemmas.List.{take_more}
use Rattle.prepared_lines.specs.declared.member.Member.{Member}
use Rattle.prepared_lines.specs.declared.hot.HotMember.{HotMember}
use Rattle.record_iter.specs.declared.place.ValuePlace.{ValuePlace}
use Rattle.prepared_lines.specs.Way.{IsHotMember, AreHot}
use Rattle.prepared_lines.proofs.LineLemmas.{hot_more}
use Rattle.prepared_lines.proofs.choose.hot_members.Goals as goal

pub loop-member-preserved : goal.loop-member-preserved
loop-member-preserved c =
    let i = c.loop-member.member-index in
    let m : Member = c.member-item.result in
    let done : List Member = take i c.args.members.now in
    let grown : take (i + 1) c.args.members.now ≡ done ++ m ∷ [] = take_more c.args.members.now i m c.loop-member-test.true ∙ ap (λ (x : Member). done ++ x ∷ []) (sym c.member-item.is) in
    subst (λ (l : List Member). AreHot c.args.places.now l c.push.new.self.items) (sym grown)
    (subst (λ (l : List HotMember). AreHot c.args.places.now (done ++ m ∷ []) l) (sym c.in_ok-push.ensures.items)
    (hot_more c.args.places.now done c.loop-member.fast.items m c.in-Some.made c.loop-member.invariant
    (subst (λ (p : ValuePlace). IsHotMember p m c.in-Some.made) c.place_at.ensures c.in-Some.ensures)))
