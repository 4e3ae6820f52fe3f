use Rattle.std.proofs.Common.{◌≡◌, ◌+◌, ◌<◌, ◌≤◌, ℕ, None, Some, cond, refl, ap, sym, subst, ◌∙◌, rules, arith}
use Rattle.std.specs.Prelude.{Result, Ok, Err, IfOk, is_some, nat_eq}
use Rattle.indexmap.specs.IndexMap.{get, index_map_len}
use Rattle.ipfix_reader.specs.Octets.{octets_of}
use Rattle.session_domains.specs.declared.domain.Domain.{Domain}
use Rattle.session_domains.specs.declared.domains.Domains.{Domains}
use Rattle.session_domains.specs.declared.fate.Fate.{Fate}
use Rattle.session_domains.specs.declared.fate.Fate.TheVariants.{Crowded}
use Rattle.session_domains.specs.Domain.{DomainTakes}
use Rattle.session_domains.specs.Session.{Takes}
use Rattle.session_domains.proofs.SessionLemmas.{known_later, full_later, new_later}
use Rattle.session_domains.proofs.domains.Domains.take.Goals as goal

if_taken : {X E : Type 0} (P Q : X → Type 0) (r : Result X E) → ((x : X) → P x → Q x) → IfOk r P → IfOk r Q
if_taken P Q (Ok x) f p = f x p
if_taken P Q (Err e) f p = tt

pub returns-in-Some : goal.returns-in-Some
returns-in-Some c =
    let old = c.args.self.now in
    let key = c.header-header.result.domain in
    let rows = c.get_mut.follows.lender c.take.new.self in
    let updates : (k : ℕ) → get nat_eq rows k ≡ cond (nat_eq key k) (Some c.take.new.self) (get nat_eq old.rows k) = λ k. search rules in
    let len : index_map_len rows ≡ index_map_len old.rows = search rules in
    let new : Domains = record { transport = old.transport; life = old.life; rows = rows } in
    if_taken (DomainTakes (octets_of c.args.message) c.in-Some.domain.now c.take.new.self) (Takes (octets_of c.args.message) old new) c.take.result
    (λ fate t. known_later (octets_of c.args.message) old new c.header-header.result.domain c.in-Some.domain.now c.take.new.self fate c.header-header.ensures.domain refl refl len (sym c.in-Some.ensures.value) updates t) c.take.ensures

pub returns-then-len-ge-MOST_DOMAINS : goal.returns-then-len-ge-MOST_DOMAINS
returns-then-len-ge-MOST_DOMAINS c =
    let old = c.args.self.now in
    let rows = c.get_mut.follows.lender-at-none in
    let same : rows ≡ old.rows = search rules in
    let now : Domains = record { transport = old.transport; life = old.life; rows = rows } in
    let all : now ≡ old = ap (λ r. record { transport = old.transport; life = old.life; rows = r }) same in
    let len = c.len.ensures.len in
    let long = c.if-len-ge-MOST_DOMAINS.true in
    let full : 1024 ≤ index_map_len rows = subst (λ n. 1024 ≤ n) len long in
    subst (λ d. Takes (octets_of c.args.message) old d Crowded) (sym all)
    (full_later (octets_of c.args.message) old c.header-header.result.domain c.header-header.ensures.domain (sym c.in_default.ensures.value) (subst (λ r. 1024 ≤ index_map_len r) same full))

pub returns : goal.returns
returns c =
    let old = c.args.self.now in
    let key = c.header-header.result.domain in
    let rows = c.get_mut.follows.lender-at-none in
    let same : rows ≡ old.rows = search rules in
    let new : Domains = record { transport = old.transport; life = old.life; rows = c.insert.new.self } in
    let none : get nat_eq old.rows key ≡ None = sym c.in_default.ensures.value in
    let none_so : get nat_eq rows key ≡ None = subst (λ r. get nat_eq r key ≡ None) (sym same) none in
    let ok = c.in_ok-insert.ensures in
    let len : index_map_len c.insert.new.self ≡ index_map_len rows + 1 = ok.len ∙ ap (λ o. index_map_len rows + cond (is_some o) 0 1) (ok.old ∙ none_so) in
    let short : c.len.result < 1024 = c.if-len-ge-MOST_DOMAINS.false in
    let room : index_map_len rows < 1024 = subst (λ n. n < 1024) c.len.ensures.len short in
    new_later (octets_of c.args.message) old new key c.new-domain.result c.take-2.new.self c.in_ok-fate.fate c.header-header.ensures.domain refl refl (len ∙ ap (λ r. index_map_len r + 1) same) (subst (λ r. index_map_len r < 1024) same room) none
    (λ k. ok.updates.0 k ∙ ap (λ r. cond (nat_eq key k) (Some c.take-2.new.self) (get nat_eq r k)) same) c.new-domain.ensures c.in_ok-fate.ensures
