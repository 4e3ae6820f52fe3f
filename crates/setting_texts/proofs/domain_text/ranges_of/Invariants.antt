use Rattle.std.proofs.Common.{◌≡◌, ◌++◌, drop, map, option_map}
use Rattle.config_spec.specs.Domains.{range_of, all_there}
use Rattle.setting_texts.proofs.domain_text.ranges_of.Given as goal

abbrev pub invariant-loop-part : goal.invariant-loop-part
invariant-loop-part l = all_there (map range_of (map (λ piece. piece.now) l.parts)) ≡ option_map (λ more. l.made.items ++ more) (all_there (map range_of (map (λ piece. piece.now) (drop l.part-index l.parts))))
