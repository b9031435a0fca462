use Rattle.ber_code.proofs.names.+rest_into.Given as goal

abbrev pub decreases-rest_into : goal.decreases-rest_into
decreases-rest_into l = l.most
