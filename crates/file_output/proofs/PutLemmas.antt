-- What was put of sets is an item more.
use Rattle.std.proofs.Common.{◌≡◌, ℕ, List, [], ◌∷◌, ◌++◌, None, Some, ap, sym, ◌∙◌}
use Rattle.std.specs.Prelude.{find, nat_lt, if◌then◌else◌, ◌==◌}
use Rattle.run_spec.specs.Work.{Item}
use Rattle.file_spec.specs.File.{needed_by}
use Rattle.file_output.specs.declared.kept.Numbering.{Numbering}
use Rattle.file_output.specs.Sets.{Body, head_in, numbers_in, written_in, domain_after}
use Rattle.file_output.specs.Stands.{domain_in, IsItemOf, IsPut, StandsFor}
use Rattle.file_output.proofs.ItemLemmas.{one_more}

module _ {X : Type 0} (body : X → Body) (domain export : ℕ) (sets : List X) (before : Numbering) where
  pub is_put : (after : Numbering) (old new : List ℕ) → new ≡ old ++ written_in body (head_in export domain (domain_in before domain)) (domain_in before domain).known sets
      → ((d : ℕ) → domain_in after d ≡ (if domain == d then domain_after body (domain_in before domain) sets else domain_in before d))
      → find (nat_lt before.last) (numbers_in body (domain_in before domain).known sets) ≡ None
      → (items : List Item) (item : Item) → StandsFor items before → IsItemOf body domain export sets item → IsPut before.last items item after old new
  is_put after old new a d e items item stands p =
      let m = one_more body items item domain export sets (domain_in before domain) (stands domain) p in
      record {
        appended = a ∙ ap (λ t. old ++ t) m.0;
        enough = ap (find (nat_lt before.last)) (sym m.1) ∙ e;
        stands = λ q. d q ∙ (ap (λ k. if domain == q then domain_after body (domain_in before domain) sets else k) (stands q) ∙ m.2 q);
      }

  pub needs_more : (n : ℕ) → find (nat_lt before.last) (numbers_in body (domain_in before domain).known sets) ≡ Some n
      → (items : List Item) (item : Item) → StandsFor items before → IsItemOf body domain export sets item → find (nat_lt before.last) (needed_by (items ++ item ∷ []) item) ≡ Some n
  needs_more n e items item stands p =
      let m = one_more body items item domain export sets (domain_in before domain) (stands domain) p in
      ap (find (nat_lt before.last)) (sym m.1) ∙ e
