use Rattle.std.proofs.Common.{rules}
use Rattle.educe_core_devices.specs.Status.{whole, fault, short}
use Rattle.educe_core_devices.proofs.writing.deliver.Goals as goal

pub returns-in-Ok : goal.returns-in-Ok
returns-in-Ok g c = whole (record { bytes = search rules; faults = search rules })

pub returns-in-Err-Failed : goal.returns-in-Err-Failed
returns-in-Err-Failed g c = fault (record { count = c.write_all.ensures.front.0; bytes = search rules; fails = record { rose = search rules; might = search rules } })

pub returns : goal.returns
returns g c = short (record { count = c.write_all.ensures.front.0; bytes = search rules; faults = search rules })
