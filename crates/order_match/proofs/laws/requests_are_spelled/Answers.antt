use Rattle.order_match.proofs.RequestLaws.{request_read, request_spelled}
use Rattle.order_match.proofs.laws.requests_are_spelled.Goals as goal

pub returns-clause-read : goal.returns-clause-read
returns-clause-read c = request_read

pub returns-clause-one : goal.returns-clause-one
returns-clause-one c = request_spelled
