mod EventLaws
pub mod StopLaws
pub mod TaskLaws
pub mod UnderWayLaws
pub mod WayLaws
