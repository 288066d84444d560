pub mod TightLaws
pub mod HookLaws
pub mod SettingLaws
pub mod GrowLaws
pub mod StartLaws
pub mod SearchLaws
pub mod DrawnGraphs
