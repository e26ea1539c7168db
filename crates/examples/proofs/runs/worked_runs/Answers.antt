use Rattle.examples.proofs.CountingWords.{law_of_words}
use Rattle.examples.proofs.runs.worked_runs.Goals as goal

pub returns-clause-words : goal.returns-clause-words
returns-clause-words c = law_of_words
