use Rattle.promise.proofs.OneRunLemmas.{promised_rows_are_one}
use Rattle.promise.proofs.promised_rows_are_one.Goals as goal

pub returns : goal.returns
returns c =
    promised_rows_are_one c.spelled_blocks_are_one.ensures c.images_are_one.ensures.one c.images_load_alike.ensures
    c.traces_are_exact.ensures c.plans_are_exact.ensures
