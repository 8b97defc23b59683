-- The exports fields that were passed are not there.
use Rattle.definition.specs.Settings.{texts_of}
use Rattle.settings.specs.Meaning.{texts_left}
use Rattle.package_exports.proofs.Fields.{Passed}
use Rattle.package_exports.proofs.exports_field.Given as goal

abbrev pub invariant-loop-name : goal.invariant-loop-name
invariant-loop-name l = Passed l.package.manifest.now l.package.root (texts_of l.s 4) (texts_left l.name-iterator)
