-- What an error of a change comes to
use Rattle.hg_journal.specs.declared.errors.OpenError.{OpenError}
use Rattle.hg_journal.specs.declared.errors.OpenError.TheVariants.{Disk, Memory}
use Rattle.hg_journal.specs.declared.errors.StoreError.{StoreError}
use Rattle.hg_journal.specs.declared.errors.StoreError.TheVariants as store_error

abbrev pub open_error_of : StoreError → OpenError
open_error_of store_error.Disk = Disk
open_error_of store_error.Closed = Disk
open_error_of store_error.Memory = Memory
