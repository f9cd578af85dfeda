-- Two edges over the part of a frame's order that they share.
use Rattle.grid_exact.specs.Geometry.{turned}
use Rattle.grid_exact.specs.declared.frame.Frame.TheVariants.{Plain, Turned}
use Rattle.grid_exact.proofs.Spans.{one_above, ordered_apart}
use Rattle.grid_exact.proofs.Views.{common_turned, common_turned_back}
use Rattle.segment_tests.specs.Laws.{ApartEdgesAreOrdered, OrderedEdgesAreApart}

pub apart_are_ordered : ApartEdgesAreOrdered
apart_are_ordered Plain a b c d h apart = one_above a b c d h.first h.second h.second_starts_in_time h.first_starts_in_time apart
apart_are_ordered Turned a b c d h apart = one_above (turned a) (turned b) (turned c) (turned d) h.first h.second h.second_starts_in_time
    h.first_starts_in_time (λ k. apart (common_turned_back a b c d k))

pub ordered_are_apart : OrderedEdgesAreApart
ordered_are_apart Plain a b c d h k = ordered_apart a b c d h k
ordered_are_apart Turned a b c d h k = ordered_apart (turned a) (turned b) (turned c) (turned d) h (common_turned a b c d k)
