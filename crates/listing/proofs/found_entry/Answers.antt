-- The first path not below is the one sought.
use Rattle.std.proofs.Common.{arith}
use Rattle.listing.proofs.Seek.{stop_directory, stop_file}
use Rattle.listing.proofs.found_entry.Goals as goal

pub returns-then-c-eq-DIRECTORY : goal.returns-then-c-eq-DIRECTORY
returns-then-c-eq-DIRECTORY c =
    let s = c.args.spot in
    λ q u t. stop_directory s.listing.now q s.count s.index s.at _ s.reached c.requires.0 c.end-end.ensures.is _
    c.mark-c.ensures.is
    (omega arith) u t c.if-c-eq-DIRECTORY.true

pub returns : goal.returns
returns c =
    let s = c.args.spot in
    λ q u t. stop_file s.listing.now q s.count s.index s.at _ s.reached c.requires.0 c.end-end.ensures.is _
    c.mark-c.ensures.is
    (omega arith) u t c.if-c-eq-DIRECTORY.false c.reach.ensures
