use Rattle.surd_order.proofs.LawProofs.{order_is_total, order_is_transitive, same_place_is_transitive, is_kept_by_same_place, places_have_one_spelling}
use Rattle.surd_order.proofs.SpelledPlaces.{is_one_spelling}
use Rattle.surd_order.proofs.laws.order_laws.Goals as goal

pub returns : goal.returns
returns c = record {
  total = order_is_total;
  transitive = order_is_transitive;
  same_place = same_place_is_transitive;
  kept = is_kept_by_same_place;
  one_spelling = places_have_one_spelling;
  spelled = is_one_spelling;
}
