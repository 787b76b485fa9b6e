use Rattle.std.proofs.Common.{refl}
use Rattle.shot_core.proofs.laws.segment_laws.Goals as goal

pub returns-clause-ends : goal.returns-clause-ends
returns-clause-ends c = record { start = refl; end = refl }

pub returns-clause-segments : goal.returns-clause-segments
returns-clause-segments c seg = (
  λ s. record {
    ordered = s.ordered;
    begun = s.begun;
    not_ended = s.not_ended;
    start_range = s.start_range;
    start_spelled = s.start_spelled;
    end_range = s.end_range;
    end_spelled = s.end_spelled;
  },
  λ s. record {
    ordered = s.ordered;
    begun = s.begun;
    not_ended = s.not_ended;
    start_range = s.start_range;
    start_spelled = s.start_spelled;
    end_range = s.end_range;
    end_spelled = s.end_spelled;
  },
)
