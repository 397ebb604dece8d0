use Rattle.format_json.proofs.lemmas.JsonTokenLemmas.{token-determined}
use Rattle.format_json.proofs.lemmas.CauseLawLemmas.{cause-more}
use Rattle.format_json.proofs.lemmas.TokenReadingLemmas.{read-tokens, fails-damaged}
use Rattle.format_json.proofs.laws.tokens_in_pieces_law.Goals as goal

pub returns-clause-once : goal.returns-clause-once
returns-clause-once c = λ partial a v w g h j k. token-determined partial a v w g h j k

pub returns-clause-tokens : goal.returns-clause-tokens
returns-clause-tokens c = λ f input tokens. read-tokens f input tokens

pub returns-clause-damaged : goal.returns-clause-damaged
returns-clause-damaged c = λ f place fails. fails-damaged f place fails

pub returns-clause-cause : goal.returns-clause-cause
returns-clause-cause c = λ here rest more wrong. cause-more here rest more wrong
