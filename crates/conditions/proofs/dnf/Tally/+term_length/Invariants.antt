use Rattle.conditions.proofs.dnf.Tally.+term_length.Given as goal

abbrev pub decreases-term_length : goal.decreases-term_length
decreases-term_length l = l.term.link
