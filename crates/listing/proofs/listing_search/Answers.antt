-- What is found, as a number.
use Rattle.std.proofs.Common.{sym, ◌∙◌, ap}
use Rattle.definition.specs.Ask.{number, state_of, asked}
use Rattle.listing.specs.Meaning.{seen}
use Rattle.listing.proofs.listing_search.Goals as goal

pub returns-in-Absent : goal.returns-in-Absent
unfolding asked state_of number
returns-in-Absent c = rw (sym c.search.ensures.entry ∙ ap (seen c.args.l.now) c.in-Absent.is)

pub returns-in-Directory : goal.returns-in-Directory
unfolding asked state_of number
returns-in-Directory c = rw (sym c.search.ensures.entry ∙ ap (seen c.args.l.now) c.in-Directory.is)

pub returns-in-File : goal.returns-in-File
unfolding asked state_of number
returns-in-File c = rw (sym c.search.ensures.entry ∙ ap (seen c.args.l.now) c.in-File.is)
