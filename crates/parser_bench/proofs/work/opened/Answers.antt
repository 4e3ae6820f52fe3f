use Rattle.std.proofs.Common.{subst, sym}
use Rattle.col_base.specs.declared.base.Transport.TheVariants.{Tcp}
use Rattle.parser_lane.specs.Session.{MayOpen}
use Rattle.parser_lane.proofs.SessionLemmas.{may_open, may_open_first, opens}
use Rattle.parser_bench.proofs.work.opened.Goals as goal

pub work-requires : goal.work-requires
work-requires c =
    may_open c.in_ok-parser.parser c.args.key Tcp (subst (λ n. MayOpen n c.in_ok-parser.parser) (sym c.requires) (may_open_first c.in_ok-parser.parser c.in_ok-parser.ensures.1))

pub returns : goal.returns
returns c =
    opens c.in_ok-parser.parser c.work.new.self c.args.key Tcp _
    (subst (λ n. MayOpen n c.in_ok-parser.parser) (sym c.requires) (may_open_first c.in_ok-parser.parser c.in_ok-parser.ensures.1)) c.in_ok-work.ensures.ok.2
