-- `Rows::of` meets its contract: rows that lie in their slices, and are not bad, are held.
use Rattle.majorana.proofs.SetLaws.{held_of, rows_told}
use Rattle.majorana.proofs.rows.Rows.of.Goals as goal

pub invariant_of-result-clause-held : goal.invariant_of-result-clause-held
invariant_of-result-clause-held c =
    let s = c.args.set in
    held_of s.modes s.qubits c.args.w s.x.now s.z.now s.phases.now c.requires.fits (rows_told _ _ _ _ _ _ c.requires.fits.modes c.requires.good) c.words.ensures c.words-2.ensures

pub invariant_of-result-clause-good : goal.invariant_of-result-clause-good
invariant_of-result-clause-good c = rows_told _ _ _ _ _ _ c.requires.fits.modes c.requires.good
