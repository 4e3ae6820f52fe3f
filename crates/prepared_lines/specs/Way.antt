-- The ways in which lines are written.
use Rattle.std.specs.Prelude.{ℕ, ◌≡◌, ◌+◌, ◌*◌, true, List, [], ◌∷◌, ◌++◌, length}
use Rattle.std.specs.List.{list_all}
use Rattle.wire_spec.specs.declared.field.FieldSpec.{FieldSpec}
use Rattle.wire_spec.specs.Record.{IsRecord}
use Rattle.text_spec.specs.Value.{value_text}
use Rattle.record_iter.specs.declared.place.ValuePlace.{ValuePlace}
use Rattle.prepared_lines.specs.declared.member.Member.{Member}
use Rattle.prepared_lines.specs.declared.hot.HotMember.{HotMember}
use Rattle.prepared_lines.specs.declared.hot.HotLine.{HotLine}
use Rattle.prepared_lines.specs.declared.way.PlacedLine.{PlacedLine}
use Rattle.prepared_lines.specs.declared.way.Way.{Way}
use Rattle.prepared_lines.specs.declared.way.Way.TheVariants.{Hot, Placed, Walked}
use Rattle.prepared_lines.specs.Line.{members_text}
use Rattle.prepared_lines.specs.Places.{Stand}
use Rattle.prepared_lines.specs.General.{place_at, most_of_line}
use Rattle.prepared_lines.specs.Shape.{width, shape_text}
use Rattle.prepared_lines.specs.Hot as hot

-- a member of a fast line puts what a member puts whose value stands at a place
pub record IsHotMember (place : ValuePlace) (member : Member) (fast : HotMember) : Type 0 where
  pub literal : fast.literal ≡ member.literal
  pub begins : fast.at ≡ place.at
  pub wide : width fast.shape ≡ place.len
  pub text : (value : List ℕ) → length value ≡ place.len → value_text member.kind value ≡ shape_text fast.shape value

abbrev pub AreHot : List ValuePlace → List Member → List HotMember → Type 0
AreHot places [] [] = Unit {0}
AreHot places [] (h ∷ fast) = ⊥
AreHot places (m ∷ members) [] = ⊥
AreHot places (m ∷ members) (h ∷ fast) = IsHotMember (place_at places m.field) m h × AreHot places members fast

-- a fast line puts the line of each record, and asks for the room that it takes
pub record IsHot (fields : List FieldSpec) (members : List Member) (end : List ℕ) (line : HotLine) : Type 0 where
  pub most : line.most ≡ 84 * length line.members.items + 64
  pub inside : (octets : List ℕ) (values : List (List ℕ)) → IsRecord fields octets values → list_all (hot.is_inside (length octets)) line.members.items ≡ true
  pub text : (octets : List ℕ) (values : List (List ℕ)) → IsRecord fields octets values → hot.hot_line octets line.members.items line.end ≡ members_text members values ++ end

-- the values of each record stand at these places, and the room is that of the line with them
pub record IsPlaced (fields : List FieldSpec) (members : List Member) (end : List ℕ) (line : PlacedLine) : Type 0 where
  pub most : line.most ≡ most_of_line line.places.items members end
  pub stand : (octets : List ℕ) (values : List (List ℕ)) → IsRecord fields octets values → Stand octets line.places.items values

abbrev pub IsWay : List FieldSpec → List Member → List ℕ → Way → Type 0
IsWay fields members end (Hot line) = IsHot fields members end line
IsWay fields members end (Placed line) = IsPlaced fields members end line
IsWay fields members end Walked = Unit {0}
