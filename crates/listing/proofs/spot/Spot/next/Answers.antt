-- The entry behind begins where the contents end.
use Rattle.listing.proofs.Seek.{reached_next}
use Rattle.listing.proofs.spot.Spot.next.Goals as goal

pub invariant_of-result : goal.invariant_of-result
invariant_of-result c =
    let s = c.args.self in
    let x = c.contents_length.ensures in
    record {
      reached =
          reached_next s.listing.now s.listing.now s.count s.index s.at _ s.reached c.requires c.end.ensures.is _
          c.mark.ensures.is x.is
          x.small c.end.ensures.small c.mark.ensures.small;
    }
