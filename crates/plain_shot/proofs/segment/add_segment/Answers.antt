use Rattle.solid_set.specs.Laws.{IsSound}
use Rattle.plain_shot.proofs.segment.add_segment.Goals as goal

pub new-requires : goal.new-requires
new-requires c =
    let s : IsSound c.in-Some.seg = c.segment.ensures.sound c.in-Some.seg c.in-Some.is in
    record {
      ordered = s.ordered;
      begun = s.begun;
      not_ended = s.not_ended;
      start_range = s.start_range;
      start_spelled = s.start_spelled;
      end_range = s.end_range;
      end_spelled = s.end_spelled;
    }
