-- The domains of a file's session that are kept, each with its templates (RFC 7011, sections 3.1, 8 and 8.1), and
-- which messages they stand for: each template record of a domain counts for what follows it.
use Rattle.std.specs.Prelude.{ℕ, ◌≡◌, ◌+◌, ◌<◌, ◌==◌, ◌||◌, if◌then◌else◌, nat_lt, nat_le, Bool, true, false, List, [], Option, Some, None, ◌++◌, length, is_some, fold, flat_map}
use Rattle.std.specs.BTreeMap.{get, btree_map_len, IsUnchanged}
use Rattle.std.specs.Ordering.{nat_cmp}
use Rattle.col_base.specs.declared.base.Transport.TheVariants.{File}
use Rattle.wire_spec.specs.Content.{Definition, Touch, Part, Message}
use Rattle.template_spec.specs.Valid.{touched, last_touched}
use Rattle.arrival_spec.specs.Settings.{Settings}
use Rattle.run_spec.specs.Touches.{dated, touches_before}
use Rattle.run_spec.specs.Domains.{is_among, kept_domains, with_domain}
use Rattle.file_templates.specs.declared.domain_templates.DomainTemplates.{DomainTemplates}
use Rattle.file_templates.specs.declared.domains.Domains.{Domains}
use Rattle.file_templates.specs.DomainTemplates.{definition_of}

-- the settings of an input that is a file
abbrev pub of_file : Settings → Settings
of_file settings = record settings { transport = File }

-- whether a domain is kept
abbrev pub is_kept : Domains → ℕ → Bool
is_kept domains domain = is_some (get nat_cmp domains.rows domain)

-- how many are
abbrev pub count_kept : Domains → ℕ
count_kept domains = btree_map_len domains.rows

abbrev pub definition_by : Option DomainTemplates → ℕ → Option Definition
definition_by None id = None
definition_by (Some templates) id = definition_of templates id

-- the definition of an ID in a domain, none in one that isn't kept
abbrev pub templates_of : Domains → ℕ → ℕ → Option Definition
templates_of domains domain id = definition_by (get nat_cmp domains.rows domain) id

-- A domain is kept where it was kept, or there is room for it, and each keeps its templates.
pub record Admits (old : Domains) (domain : ℕ) (admitted : Bool) (new : Domains) : Type 0 where
  pub room : admitted ≡ (is_kept old domain || nat_lt (count_kept old) 1024)
  pub kept : (d : ℕ) → is_kept new d ≡ (if domain == d then admitted else is_kept old d)
  pub count : count_kept new ≡ (if is_kept old domain || nat_le 1024 (count_kept old) then count_kept old else count_kept old + 1)
  pub templates : (d id : ℕ) → templates_of new d id ≡ templates_of old d id

-- Memory is wanted only for a domain that isn't kept, where there is room for it, and nothing changes.
pub record WantsRoom (old : Domains) (domain : ℕ) (new : Domains) : Type 0 where
  pub unknown : is_kept old domain ≡ false
  pub room : count_kept old < 1024
  pub same : IsUnchanged old.rows new.rows

-- The same domains are kept, and these touches were of one.
pub record AreTouched (old : Domains) (domain : ℕ) (touches : List Touch) (new : Domains) : Type 0 where
  pub kept : (d : ℕ) → is_kept new d ≡ is_kept old d
  pub count : count_kept new ≡ count_kept old
  pub templates : (d id : ℕ) → templates_of new d id ≡ (if domain == d then fold (touched id) (templates_of old d id) touches else templates_of old d id)

-- These domains are kept, and no other.
pub record KeepDomains (domains : Domains) (kept : List ℕ) : Type 0 where
  pub are : (d : ℕ) → is_kept domains d ≡ is_among d kept
  pub count : count_kept domains ≡ length kept

-- The domains stand for the well-formed messages of a file so far.
pub record StandFor (domains : Domains) (past : List Message) : Type 0 where
  pub kept : KeepDomains domains (kept_domains past)
  pub templates : (settings : Settings) (d id : ℕ) → templates_of domains d id ≡ last_touched (touches_before (of_file settings) past d) id

-- The domains stand for these messages, and for the sets so far of one of an export time and a domain that is kept.
pub record StandAmid (domains : Domains) (past : List Message) (time domain : ℕ) (parts : List Part) : Type 0 where
  pub here : is_kept domains domain ≡ true
  pub kept : KeepDomains domains (with_domain (kept_domains past) domain)
  pub templates : (settings : Settings) (d id : ℕ) → templates_of domains d id
      ≡ last_touched (touches_before (of_file settings) past d ++ (if domain == d then flat_map (dated File time) parts else [])) id
