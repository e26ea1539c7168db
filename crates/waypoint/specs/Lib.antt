pub mod Waypoints
