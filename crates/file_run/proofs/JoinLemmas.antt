-- Records that are joined, one after another.
use Rattle.std.proofs.Common.{◌≡◌, ℕ, List, [], ◌∷◌, ◌++◌, ap, sym, subst, ◌∙◌, append_assoc, append-nil}
use Rattle.std.specs.Prelude.{◌≢◌}
use Rattle.std.specs.List.{AllByRecursion, concat}
use Rattle.wire_spec.specs.declared.field.FieldSpec.{FieldSpec}
use Rattle.wire_spec.specs.Content.{Definition}
use Rattle.wire_spec.specs.Record.{IsSomeRecord}
use Rattle.file_output.specs.declared.file_set.FileSet.{FileSet}
use Rattle.file_output.specs.FileSets.{HasRecords}

-- octets are records of these fields, joined
pub record AreJoined (fields : List FieldSpec) (octets : List ℕ) : Type 0 where
  pub list : List (List ℕ)
  pub each : AllByRecursion (IsSomeRecord fields) list
  pub whole : octets ≡ concat list

pub none_joined : (fields : List FieldSpec) (octets : List ℕ) → octets ≡ [] → AreJoined fields octets
none_joined fields octets e = record { list = []; each = tt; whole = e }

each_more : (P : List ℕ → Type 0) (list : List (List ℕ)) (x : List ℕ) → AllByRecursion P list → P x → AllByRecursion P (list ++ x ∷ [])
each_more P [] x a p = (p, tt)
each_more P (y ∷ list) x a p = (a.0, each_more P list x a.1 p)

joined_more : (list : List (List ℕ)) (x : List ℕ) → concat (list ++ x ∷ []) ≡ concat list ++ x
joined_more [] x = append-nil x
joined_more (y ∷ list) x = ap (λ o. y ++ o) (joined_more list x) ∙ sym (append_assoc y (concat list) x)

pub one_joined : (fields : List FieldSpec) (octets now x : List ℕ) → AreJoined fields octets → IsSomeRecord fields x → now ≡ octets ++ x → AreJoined fields now
one_joined fields octets now x a is e =
    record { list = a.list ++ x ∷ []; each = each_more (IsSomeRecord fields) a.list x a.each is; whole = e ∙ (ap (λ o. o ++ x) a.whole ∙ sym (joined_more a.list x)) }

pub some_joined : (s : FileSet) → AreJoined s.def.value.fields s.octets → s.octets ≢ [] → HasRecords s
some_joined s a some = record { list = a.list; each = a.each; whole = a.whole; some = λ e. some (a.whole ∙ ap concat e) }

pub same_record : (d e : Definition) (x y : List ℕ) → d ≡ e → x ≡ y → IsSomeRecord d.fields x → IsSomeRecord e.fields y
same_record d e x y same there is = subst (IsSomeRecord e.fields) there (subst (λ (a : Definition). IsSomeRecord a.fields x) same is)
