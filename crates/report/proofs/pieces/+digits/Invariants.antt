-- `report::pieces::digits` ends: the number gets smaller.
use Rattle.report.proofs.pieces.+digits.Given as goal

abbrev pub decreases-digits : goal.decreases-digits
decreases-digits l = l.n
